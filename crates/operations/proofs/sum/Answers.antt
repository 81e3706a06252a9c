-- `operations::sum` meets its contract.
use Rattle.operations.proofs.Masked.{masked}
use Rattle.operations.proofs.Tape.{random_words}
use Rattle.operations.proofs.sum.Goals as goal

pub returns : goal.returns
returns c =
    let e = c.call.ensures in
    record { answer = e.answer; res = e.res; work = e.work; holds = masked; words = random_words }
