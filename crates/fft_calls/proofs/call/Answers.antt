-- `fft_calls::call` meets its contract: OnSlots at its operation.
use borrow.Author.Rules.{rules}
use Rattle.fft_calls.proofs.OnSlots.{run_ready, call_done}
use Rattle.fft_calls.proofs.call.Goals as goal

pub done-next-requires : goal.done-next-requires
done-next-requires g c =
    record { le_n = search rules; enough = run_ready g.O.CompiledOperation.operation c.args.n c.args.start c.args.tape.now c.args.work.now c.requires }

pub returns : goal.returns
returns g c =
    call_done g.O.CompiledOperation.operation c.args.n c.args.start c.args.tape.now c.args.work.now c.requires c.args.to c.args.a c.args.b
    g.met.O.CompiledOperation.reads g.met.O.CompiledOperation.writes
    c.operands.ensures
    c.done-next.ensures
    (rw c.cell.ensures.at at c.copy_within.ensures)
