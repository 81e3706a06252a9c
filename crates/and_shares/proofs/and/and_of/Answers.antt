-- `and_shares::and::and_of` meets its contract, by the number of shares.
use native.Mathlib.Omega.{arith}
use Rattle.and_many.proofs.InHalves.{asked_for, ran_for}
use Rattle.and_shares.proofs.and.and_of.Goals as goal

pub and_2-requires : goal.and_2-requires
and_2-requires g c = asked_for c.requires c.if-n-eq2.true

pub returns-then-n-eq2 : goal.returns-then-n-eq2
returns-then-n-eq2 g c = ran_for c.requires c.if-n-eq2.true c.and_2.ensures

pub and_3_to_8-requires : goal.and_3_to_8-requires
and_3_to_8-requires g c = (omega (arith, c.requires.least, c.if-n-eq2.false), c.requires)

pub returns : goal.returns
returns g c = c.and_3_to_8.ensures
