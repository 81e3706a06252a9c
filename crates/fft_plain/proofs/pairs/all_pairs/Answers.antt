-- `fft_plain::pairs::all_pairs` meets its contract: the loop keeps that the pairs before pair k are done (Plainly).
use mathlib.Core.Path.{◌≡◌, refl, sym, ap, ◌∙◌}
use Prim.Native.Nat.{ℕ, ◌*◌, ◌/◌}
use native.Mathlib.Omega.{arith}
use Rattle.fft_plain.proofs.Plainly.{none_done, one_done, all_done}
use Rattle.fft_plain.proofs.pairs.all_pairs.Goals as goal

pub loop-k-init : goal.loop-k-init
loop-k-init c =
    (refl, none_done c.args.layer.count c.args.layer.distance c.args.numbers.now c.args.factors.now c.requires.0)

pub pair-requires : goal.pair-requires
pair-requires c = c.loop-k.invariant.1.size ∙ ap (λ (N : ℕ). 2 * N) (sym c.pair-here.ensures.count)

pub loop-k-preserved : goal.loop-k-preserved
loop-k-preserved c =
    (c.loop-k.invariant.0, one_done c.args.layer.count c.args.layer.distance c.args.numbers.now c.args.factors.now c.loop-k.k c.loop-k.invariant.1 c.pair-here.result c.pair-here.ensures c.pair.ensures)

pub returns : goal.returns
returns c =
    let end : c.loop-k.k ≡ c.args.layer.count / 2 = omega arith in
    all_done c.args.layer.count c.args.layer.distance c.args.numbers.now c.args.factors.now (rw end at c.loop-k.invariant.1)
