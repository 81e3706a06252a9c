-- `fft_layer::complex_product` meets its contract.
use mathlib.Core.Path.{refl, ap, ◌∙◌}
use Prim.Native.Nat.{ℕ}
use lib.ListN.{replicate}
use borrow.Author.Rules.{rules}
use Rattle.fft_numbers.proofs.Answered.{complex_ready, refused_keeps}
use Rattle.fft_numbers.proofs.Holds.{transforms}
use Rattle.fft_numbers.proofs.OnShares.{on_shares_means}
use Rattle.fft_numbers.proofs.RandomWords.{transform_words}
use Rattle.fft_layer.proofs.complex_product.Goals as goal

pub product_done-requires : goal.product_done-requires
product_done-requires c =
    let R = complex_ready _ _ _ _ _ _ _ c.in_ok-counts.ensures refl in
    (R.least, R.most, R.x_is, R.y_is, R.result_is, R.work_is, R.enough)

pub returns-in_err-counts : goal.returns-in_err-counts
returns-in_err-counts c =
    record { answer = search rules; res = refused_keeps _ c.in_err-counts.ensures _ _; work = refused_keeps _ c.in_err-counts.ensures _ _; holds = transforms; means = on_shares_means; words = transform_words }

pub returns : goal.returns
returns c =
    let R = complex_ready _ _ _ _ _ _ _ c.in_ok-counts.ensures refl in
    record {
      answer = c.in_ok-counts.ensures;
      res = rw (← c.in_ok-counts.ensures) c.product_done.ensures.0;
      work = rw (← c.in_ok-counts.ensures) (c.product_done.ensures.1 ∙ ap (λ (k : ℕ). replicate k 0) R.work_is);
      holds = transforms;
      means = on_shares_means;
      words = transform_words;
    }
