-- `add_head::add_head` meets its contract.
use native.Mathlib.Omega.{arith}
use Rattle.add_head.proofs.Converts.{fits, converts}
use Rattle.add_head.proofs.add_head.Goals as goal

pub overflow_cast-n : goal.overflow_cast-n
overflow_cast-n c = omega (arith, (fits c.args.n c.args.stored.now c.args.out.now _ _ c.in_ok-counts.ensures).count)

pub put_before-requires : goal.put_before-requires
put_before-requires c = (fits c.args.n c.args.stored.now c.args.out.now _ _ c.in_ok-counts.ensures).room

pub returns-in_err-counts-clause-holds : goal.returns-in_err-counts-clause-holds
returns-in_err-counts-clause-holds c = converts

pub returns-clause-holds : goal.returns-clause-holds
returns-clause-holds c = converts

pub returns-clause-out : goal.returns-clause-out
returns-clause-out c = rw (← c.in_ok-counts.ensures) c.put_before.ensures
