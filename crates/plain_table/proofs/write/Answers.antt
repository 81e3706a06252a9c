-- `plain_table::write` meets its contract.
use Rattle.std.proofs.Common.{sym}
use lib.Seq.{set_out}
use Rattle.plain_table.proofs.write.Goals as goal

pub returns-else-d-cells : goal.returns-else-d-cells
returns-else-d-cells c = sym (set_out _ _ _ c.if-d-cells.false)
