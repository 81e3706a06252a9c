-- `and_many::counts::and_3_to_8` meets its contract, by the number of shares.
use mathlib.Core.Path.{◌≡◌}
use native.Mathlib.Omega.{arith}
use Rattle.and_many.proofs.InHalves.{asked_for, ran_for}
use Rattle.and_many.proofs.counts.and_3_to_8.Goals as goal

pub and_n-requires : goal.and_n-requires
and_n-requires c = asked_for c.requires.1 c.in-3.is

pub and_n-requires-in-4 : goal.and_n-requires-in-4
and_n-requires-in-4 c = asked_for c.requires.1 c.in-4.is

pub and_n-requires-in-5 : goal.and_n-requires-in-5
and_n-requires-in-5 c = asked_for c.requires.1 c.in-5.is

pub and_n-requires-in-6 : goal.and_n-requires-in-6
and_n-requires-in-6 c = asked_for c.requires.1 c.in-6.is

pub and_n-requires-in-7 : goal.and_n-requires-in-7
and_n-requires-in-7 c = asked_for c.requires.1 c.in-7.is

-- the arm for what is left
pub and_n-requires-in_default : goal.and_n-requires-in_default
and_n-requires-in_default c = let e : c.args.n ≡ 8 = omega arith in asked_for c.requires.1 e

pub returns-in-3 : goal.returns-in-3
returns-in-3 c = ran_for c.requires.1 c.in-3.is c.and_n.ensures

pub returns-in-4 : goal.returns-in-4
returns-in-4 c = ran_for c.requires.1 c.in-4.is c.and_n-in-4.ensures

pub returns-in-5 : goal.returns-in-5
returns-in-5 c = ran_for c.requires.1 c.in-5.is c.and_n-in-5.ensures

pub returns-in-6 : goal.returns-in-6
returns-in-6 c = ran_for c.requires.1 c.in-6.is c.and_n-in-6.ensures

pub returns-in-7 : goal.returns-in-7
returns-in-7 c = ran_for c.requires.1 c.in-7.is c.and_n-in-7.ensures

pub returns-in_default : goal.returns-in_default
returns-in_default c = let e : c.args.n ≡ 8 = omega arith in ran_for c.requires.1 e c.and_n-in_default.ensures
