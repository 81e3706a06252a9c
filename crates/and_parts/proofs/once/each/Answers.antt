-- `and_parts::once::each` meets its contract.
use mathlib.Core.Path.{sym, ap, ap₂, ◌∙◌}
use mathlib.Core.List.{List, map}
use Prim.Native.Nat.{ℕ, ◌+◌, ◌-◌}
use native.Mathlib.Omega.{arith}
use lib.ListN.{get_or, set, length-set}
use Rattle.masking.specs.Translation.{up_from}
use Rattle.masking.specs.Machine.{exec_steps}
use Rattle.and_parts.specs.inner.Effects.{at, once_step, value_of}
use Rattle.masking.proofs.emitted.Rising.{risen, from_first}
use Rattle.and_parts.proofs.Turn.{once_turn}
use Rattle.and_parts.proofs.once.each.Goals as goal

pub loop-i-init : goal.loop-i-init
loop-i-init c =
    (c.requires.1, λ tape. ap (λ (is : List ℕ). exec_steps (map (once_step c.args.op (at c.args.d) (at c.args.a) (at c.args.b)) is) tape c.args.cells.now) (from_first c.args.n))

pub loop-i-preserved : goal.loop-i-preserved
loop-i-preserved c = (
  length-set c.loop-i.cells _ _ ∙ c.loop-i.invariant.0,
  λ tape. c.loop-i.invariant.1 tape ∙ once_turn c.args.op (at c.args.d) (at c.args.a) (at c.args.b) c.loop-i.i c.args.n (omega arith) tape c.loop-i.cells
      ∙ ap (exec_steps (map (once_step c.args.op (at c.args.d) (at c.args.a) (at c.args.b)) (up_from (c.loop-i.i + 1) (c.args.n - (c.loop-i.i + 1)))) tape)
      (ap₂ (set c.loop-i.cells) (sym c.cell-in-loop-i-2.ensures.0) (ap₂ (λ (x y : ℕ). value_of c.args.op (get_or c.loop-i.cells x 0) (get_or c.loop-i.cells y 0)) (sym c.cell.ensures.0) (sym c.cell-in-loop-i.ensures.0) ∙ sym c.value.ensures)),
)

pub returns : goal.returns
returns c =
    λ tape. sym (c.loop-i.invariant.1 tape ∙ ap (λ (is : List ℕ). exec_steps (map (once_step c.args.op (at c.args.d) (at c.args.a) (at c.args.b)) is) tape c.loop-i.cells) (risen c.loop-i.i c.args.n (omega arith)))
