-- `fft_lent::load` meets its contract.
use mathlib.Core.Path.{ap, ◌∙◌}
use Prim.Native.Nat.{ℕ}
use lib.ListN.{replicate}
use Rattle.fft_lent.proofs.InAndOut.{parts_in}
use Rattle.fft_lent.proofs.load.Goals as goal

pub returns : goal.returns
returns c =
    parts_in c.args.n c.requires.1 c.args.x.now c.args.y.now (c.clear.ensures ∙ ap (λ (k : ℕ). replicate k 0) c.requires.4) c.load.ensures c.load-2.ensures c.load-3.ensures c.load-4.ensures
