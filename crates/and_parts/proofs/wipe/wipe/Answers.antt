-- `and_parts::wipe::wipe` meets its contract.
use mathlib.Core.Path.{refl, sym, ◌∙◌}
use native.Mathlib.Omega.{arith}
use lib.ListN.{set, length-set}
use Rattle.masking.specs.Translation.{scratch, scratch_cells}
use Rattle.and_parts.proofs.Zeros.{wiping_zeroed, from_start, from_turn, from_end}
use Rattle.and_parts.proofs.wipe.wipe.Goals as goal

pub loop-i-init : goal.loop-i-init
loop-i-init c = (c.requires.1, refl)

pub loop-i-preserved : goal.loop-i-preserved
loop-i-preserved c = (
  length-set (set c.loop-i.cells _ 0) _ 0 ∙ length-set c.loop-i.cells _ 0 ∙ c.loop-i.invariant.0,
  c.loop-i.invariant.1 ∙ from_turn c.args.n c.loop-i.i (omega arith) c.loop-i.cells,
)

pub returns : goal.returns
returns c =
    λ tape. sym (
    wiping_zeroed (scratch_cells scratch c.args.n) tape c.args.cells.now ∙ from_start c.args.n c.args.cells.now
    ∙ c.loop-i.invariant.1 ∙ from_end c.args.n c.loop-i.i (omega arith) c.loop-i.cells
    )
