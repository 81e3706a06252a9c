-- `plain_table::shl` meets its contract.
use Rattle.std.proofs.Common.{◌≡◌, ◌+◌, ◌-◌, sym, refl, arith}
use Rattle.bits.specs.Ops.{shl_w}
use Rattle.bits.proofs.Shift.{shl_width}
use Rattle.plain_table.proofs.shl.Goals as goal

pub returns-then-b-lt64 : goal.returns-then-b-lt64
unfolding shl_w
returns-then-b-lt64 c = refl

pub returns-else-b-lt64 : goal.returns-else-b-lt64
returns-else-b-lt64 c =
    let b = c.args.b in
    let e : 64 + (b - 64) ≡ b = omega arith in
    rw (← e) (sym (shl_width c.args.a (b - 64)))
