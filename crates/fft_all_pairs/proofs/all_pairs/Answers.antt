-- `fft_all_pairs::all_pairs` meets its contract: the loop keeps that the pairs before pair k are done (InRow).
use mathlib.Core.Path.{◌≡◌, refl, sym, ap, ◌∙◌}
use Prim.Native.Nat.{ℕ, ◌*◌, ◌/◌, ◌<◌}
use native.Mathlib.Omega.{arith}
use Rattle.fft_all_pairs.proofs.InRow.{none_done, one_done, all_done, pair_enough}
use Rattle.fft_all_pairs.proofs.all_pairs.Goals as goal

pub loop-k-init : goal.loop-k-init
loop-k-init c =
    (refl, none_done c.args.n c.args.layer.count c.args.layer.distance c.args.numbers.now c.args.factors.now c.args.tape.now c.requires.1 c.requires.2 c.requires.4)

pub pair-t-requires : goal.pair-t-requires
pair-t-requires c =
    let P = c.loop-k.invariant.1 in
    let here = c.pair-here.ensures in
    let inside : c.loop-k.k < c.args.layer.count / 2 = omega arith in (
      c.requires.0,
      c.requires.1,
      P.lent.size ∙ ap (λ (N : ℕ). 2 * N * c.args.n) (sym here.count),
      P.held.size,
      pair_enough c.args.n c.args.layer.count c.args.layer.distance c.args.numbers.now c.args.factors.now c.args.tape.now c.loop-k.k c.loop-k.t P c.pair-here.result here inside c.requires.5,
    )

pub loop-k-preserved : goal.loop-k-preserved
loop-k-preserved c =
    (c.loop-k.invariant.0, one_done c.args.n c.args.layer.count c.args.layer.distance c.args.numbers.now c.args.factors.now c.args.tape.now c.loop-k.k c.loop-k.t c.loop-k.invariant.1 c.pair-here.result c.pair-here.ensures c.pair-t.ensures.0 c.pair-t.ensures.1)

pub returns : goal.returns
returns c =
    let end : c.loop-k.k ≡ c.args.layer.count / 2 = omega arith in
    all_done c.args.n c.args.layer.count c.args.layer.distance c.args.numbers.now c.args.factors.now c.args.tape.now (rw end at c.loop-k.invariant.1)
