-- `and_many::halves::first_half` meets its contract.
use Rattle.and_parts.specs.inner.Effects.{at, placed}
use Rattle.and_many.proofs.Parts.{first_done}
use Rattle.and_many.proofs.halves.first_half.Goals as goal

pub returns : goal.returns
returns c =
    let a = at (placed c.args.a c.args.over) in
    first_done c.args.n a a (at (placed c.args.b c.args.over)) c.args.tape.now c.args.t c.fresh_copy-t.ensures c.diagonal.ensures
