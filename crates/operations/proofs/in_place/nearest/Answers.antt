-- `operations::in_place::nearest` meets its contract.
use Rattle.operations.proofs.Masked.{masked}
use Rattle.operations.proofs.Tape.{random_words}
use Rattle.operations.proofs.in_place.nearest.Goals as goal

pub returns : goal.returns
returns c =
    let e = c.call_of_one.ensures in
    record { answer = e.answer; x = e.x; work = e.work; holds = masked; words = random_words }
