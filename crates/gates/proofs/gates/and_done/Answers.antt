-- `gates::gates::and_done` meets its contract.
use Rattle.gates.proofs.ByField.{with_d, and_asks, and_leaves}
use Rattle.gates.proofs.gates.and_done.Goals as goal

pub and_of-requires : goal.and_of-requires
and_of-requires c =
    and_asks (with_d (c.requires.good_plan_word.0, c.requires.good_plan_word.1, c.requires.good_plan_word.2, c.requires.good_plan_word.3) c.register-d.ensures) c.requires.good_plan_word.4 c.args.tape.now c.args.t c.requires.enough

pub returns : goal.returns
returns c =
    and_leaves (with_d (c.requires.good_plan_word.0, c.requires.good_plan_word.1, c.requires.good_plan_word.2, c.requires.good_plan_word.3) c.register-d.ensures) c.requires.good_plan_word.4 c.and_of.ensures
