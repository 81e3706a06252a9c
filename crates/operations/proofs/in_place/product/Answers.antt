-- `operations::in_place::product` meets its contract.
use Rattle.operations.proofs.Masked.{masked}
use Rattle.operations.proofs.Tape.{random_words}
use Rattle.operations.proofs.in_place.product.Goals as goal

pub returns : goal.returns
returns c =
    let e = c.call.ensures in
    record { answer = e.answer; x = e.x; work = e.work; holds = masked; words = random_words }
