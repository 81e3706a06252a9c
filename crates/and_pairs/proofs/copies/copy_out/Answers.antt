-- `and_pairs::copies::copy_out` meets its contract.
use mathlib.Core.Path.{refl, sym, ◌∙◌, subst}
use mathlib.Core.List.{List}
use Prim.Native.Nat.{ℕ, ◌+◌}
use native.Mathlib.Omega.{arith}
use lib.ListN.{get_or, set, length-set}
use Rattle.masking.specs.Machine.{exec_step}
use Rattle.and_parts.specs.inner.Effects.{Alike, at}
use Rattle.and_pairs.proofs.ShareTurns.{rest_start, rest_turn, rest_end, copy_alike}
use Rattle.and_pairs.proofs.copies.copy_out.Invariants.{each}
use Rattle.and_pairs.proofs.copies.copy_out.Goals as goal

pub loop-i-init : goal.loop-i-init
loop-i-init c = (c.requires.1, rest_start (each c.args.d) c.args.n c.args.cells.now)

pub loop-i-preserved : goal.loop-i-preserved
loop-i-preserved c = (
  length-set c.loop-i.cells _ _ ∙ c.loop-i.invariant.0,
  rest_turn (each c.args.d) c.args.n c.loop-i.i (omega arith) refl c.args.cells.now c.loop-i.cells _
      (
      subst (λ (m : ℕ). (tape k : List ℕ) → Alike c.loop-i.cells k → Alike (set c.loop-i.cells m (get_or c.loop-i.cells (264 + c.loop-i.i) 0)) (exec_step (each c.args.d c.loop-i.i) tape k)) (sym c.cell.ensures.0)
      (copy_alike c.loop-i.cells (at c.args.d c.loop-i.i) (264 + c.loop-i.i) (c.requires.2.away c.loop-i.i 272 (omega arith) (omega arith) (omega arith), c.requires.2.away c.loop-i.i 273 (omega arith) (omega arith) (omega arith)) (λ e. omega arith, λ e. omega arith) (omega (arith, c.slice_known-in-loop-i-1.given (264 + c.loop-i.i))))
      ) c.loop-i.invariant.1,
)

pub returns : goal.returns
returns c = rest_end (each c.args.d) c.args.n c.loop-i.i (omega arith) c.args.cells.now c.loop-i.cells c.loop-i.invariant.1
