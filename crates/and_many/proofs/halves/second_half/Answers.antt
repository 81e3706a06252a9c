-- `and_many::halves::second_half` meets its contract.
use Rattle.and_parts.specs.inner.Effects.{at, placed}
use Rattle.and_many.proofs.Parts.{second_done}
use Rattle.and_many.proofs.halves.second_half.Goals as goal

pub returns : goal.returns
returns c =
    let a = at (placed c.args.a c.args.over) in
    second_done c.args.n (at c.args.d) a a c.args.tape.now c.args.t c.crosses-t.ensures c.copy_out.ensures c.wipe.ensures
