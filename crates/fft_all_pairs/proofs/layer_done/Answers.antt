-- `fft_all_pairs::layer_done` meets its contract.
use mathlib.Core.Path.{ap, ◌∙◌}
use Prim.Native.Nat.{ℕ}
use lib.ListN.{replicate}
use Rattle.fft_all_pairs.proofs.layer_done.Goals as goal

pub all_pairs-requires : goal.all_pairs-requires
all_pairs-requires c =
    (c.requires.0, c.requires.1, c.requires.2, c.requires.3, c.clear.ensures ∙ ap (λ (k : ℕ). replicate k 0) c.requires.4, c.requires.5)

pub returns : goal.returns
returns c =
    let kept = c.all_pairs.auto.work ∙ c.clear.auto.cells in
    (c.all_pairs.ensures, c.clear-2.ensures ∙ ap (λ (k : ℕ). replicate k 0) kept)
