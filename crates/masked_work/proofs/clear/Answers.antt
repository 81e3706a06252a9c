-- `masked_work::clear` meets its contract.
use mathlib.Core.Path.{◌∙◌}
use native.Mathlib.Omega.{arith}
use lib.ListN.{length}
use Rattle.masked_call.proofs.Filling.{none_filled, part_filled, part_size, all_zero}
use Rattle.masked_work.proofs.clear.Goals as goal

pub returns : goal.returns
returns c =
    let size = part_size 0 c.args.cut c.args.cells.now _ c.clear_by_parts.ensures in
    let front = part_filled 0 c.args.cut c.args.cells.now _ (omega arith) c.requires (none_filled (λ k. 0) c.args.cells.now) c.clear_by_parts.ensures in
    all_zero _ (length c.args.cells.now) (part_size c.args.cut (length c.args.cells.now) _ _ c.clear_by_parts-2.ensures ∙ size) (part_filled c.args.cut (length c.args.cells.now) _ _ c.requires (omega (arith, size)) front c.clear_by_parts-2.ensures)
