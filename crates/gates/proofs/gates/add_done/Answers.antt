-- `gates::gates::add_done` meets its contract.
use Rattle.gates.proofs.ByField.{Fields, add_asks, add_leaves}
use Rattle.gates.proofs.gates.add_done.Goals as goal

pub add_shares-requires : goal.add_shares-requires
add_shares-requires c =
    let known : Fields c.args.w c.args.n c.args.cells.now c.register-d.result c.register-a.result c.register-b.result = record { pre = (c.requires.good_plan_word.0, c.requires.good_plan_word.1, c.requires.good_plan_word.2, c.requires.good_plan_word.3); d = c.register-d.ensures; a = c.register-a.ensures; b = c.register-b.ensures } in
    add_asks known c.requires.good_plan_word.4 c.args.tape.now c.args.t c.requires.enough

pub returns : goal.returns
returns c =
    let known : Fields c.args.w c.args.n c.args.cells.now c.register-d.result c.register-a.result c.register-b.result = record { pre = (c.requires.good_plan_word.0, c.requires.good_plan_word.1, c.requires.good_plan_word.2, c.requires.good_plan_word.3); d = c.register-d.ensures; a = c.register-a.ensures; b = c.register-b.ensures } in
    add_leaves known c.requires.good_plan_word.4 c.add_shares.ensures
