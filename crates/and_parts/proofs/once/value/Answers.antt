-- `and_parts::once::value` meets its contract.
use Rattle.bits.specs.Ops.{xor_w, shl_w}
use Rattle.and_parts.proofs.once.value.Goals as goal

pub overflow_shl-result : goal.overflow_shl-result
overflow_shl-result c = rw c.in-Shl.is at c.requires

pub returns-in-Xor : goal.returns-in-Xor
unfolding xor_w
returns-in-Xor c = rw c.in-Xor.is

pub returns-in-Shl : goal.returns-in-Shl
unfolding shl_w
returns-in-Shl c = rw c.in-Shl.is
