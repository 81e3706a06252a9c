-- `fft_layer::layer` meets its contract.
use mathlib.Core.Path.{refl, ap, ◌∙◌}
use Prim.Native.Nat.{ℕ}
use lib.ListN.{replicate}
use borrow.Author.Rules.{rules}
use Rattle.fft_numbers.proofs.Answered.{layer_ready, refused_keeps}
use Rattle.fft_numbers.proofs.Holds.{transforms}
use Rattle.fft_numbers.proofs.Means.{layer_means}
use Rattle.fft_numbers.proofs.OnShares.{on_shares_means}
use Rattle.fft_numbers.proofs.RandomWords.{transform_words}
use Rattle.fft_layer.proofs.layer.Goals as goal

pub layer_done-requires : goal.layer_done-requires
layer_done-requires c =
    let E = c.in_ok-layer.ensures in
    let R = layer_ready c.args.n c.args.count c.args.distance _ _ _ _ _ E.answer refl in
    rw (E.layer.0, E.layer.1) (R.least, R.most, R.numbers_are, R.factors_are, R.work_is, R.enough)

pub returns-in_err-layer : goal.returns-in_err-layer
returns-in_err-layer c =
    let E = c.in_err-layer.ensures in
    record {
      answer = search rules;
      numbers = refused_keeps _ E.answer _ _;
      work = refused_keeps _ E.answer _ _;
      holds = transforms;
      plainly = layer_means;
      means = on_shares_means;
      words = transform_words;
    }

pub returns : goal.returns
returns c =
    let E = c.in_ok-layer.ensures in
    let R = layer_ready c.args.n c.args.count c.args.distance _ _ _ _ _ E.answer refl in
    record {
      answer = E.answer;
      numbers = rw (← E.answer) (rw (E.layer.0, E.layer.1) at c.layer_done.ensures.0);
      work = rw (← E.answer) (c.layer_done.ensures.1 ∙ ap (λ (k : ℕ). replicate k 0) R.work_is);
      holds = transforms;
      plainly = layer_means;
      means = on_shares_means;
      words = transform_words;
    }
