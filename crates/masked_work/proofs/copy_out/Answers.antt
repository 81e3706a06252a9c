-- `masked_work::copy_out` meets its contract.
use mathlib.Core.Path.{refl, sym, subst}
use Prim.Native.Nat.{ℕ, ◌+◌}
use native.Mathlib.Omega.{arith}
use lib.ListN.{length, get_or, length-set}
use lib.Seq.{set-set}
use Rattle.word.specs.Layout.{cell}
use Rattle.masked_call.proofs.Filling.{Filled, none_filled, one_filled, all_filled}
use Rattle.masked_work.proofs.copy_out.Goals as goal

pub loop-i-init : goal.loop-i-init
loop-i-init c = (omega arith, refl, refl, none_filled (λ k. get_or c.args.cells.now (cell k 2) 0) c.args.res.now)

pub bounds-res-i-in-loop-i : goal.bounds-res-i-in-loop-i
bounds-res-i-in-loop-i c = simp length-set (omega arith)

pub loop-i-preserved : goal.loop-i-preserved
loop-i-preserved c =
    let F : ℕ → ℕ = λ k. get_or c.args.cells.now (cell k 2) 0 in
    let once = set-set c.loop-i.res c.loop-i.i (get_or c.args.cells.now 272 0) (F c.loop-i.i) in
    (omega arith, refl, simp length-set c.loop-i.invariant.2, subst (Filled F (c.loop-i.i + 1)) (sym once) (one_filled F c.loop-i.i _ c.loop-i.res c.loop-i.invariant.3 (omega arith) refl))

pub shape_of-res : goal.shape_of-res
shape_of-res c = c.loop-i.invariant.2

pub returns : goal.returns
returns c = all_filled (λ k. get_or c.args.cells.now (cell k 2) 0) c.loop-i.res (length c.args.res.now) c.loop-i.invariant.2 (λ k h. c.loop-i.invariant.3 k (omega arith))
