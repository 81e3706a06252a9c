-- `listing::opening::opening` meets its contract.
use native.Mathlib.Omega.{arith}
use Rattle.listing.proofs.Piecewise.{opening_done, opening_turned_down, done, count_most}
use Rattle.listing.proofs.opening.opening.Goals as goal

pub overflow_cast-share_count : goal.overflow_cast-share_count
overflow_cast-share_count c = omega (arith, c.share_count.ensures, count_most _ (done _ c.in-Ok.ensures))

pub returns-in-Ok : goal.returns-in-Ok
returns-in-Ok c = rw (opening_done _ c.in-Ok.ensures) (rw c.share_count.ensures at c.opening_lines.ensures)

pub returns-in-Err : goal.returns-in-Err
returns-in-Err c = rw (opening_turned_down _ _ c.in-Err.ensures) (rw c.from.ensures at c.refused_line.ensures)
