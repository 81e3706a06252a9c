-- `share_step::one_share_step` meets its contract.
use native.Mathlib.Omega.{arith}
use lib.ListN.{length-drop}
use Rattle.share_run.proofs.Done.{step_ready}
use Rattle.share_run.proofs.Parts.{rest_part}
use Rattle.share_step.proofs.one_share_step.Goals as goal

pub offset_bounds-tape-tape_place : goal.offset_bounds-tape-tape_place
offset_bounds-tape-tape_place c = omega (arith, (step_ready c.args.word c.args.tape.now c.args.cells.now c.args.tape_place _ _ c.in_ok-counts.ensures).in_tape)

pub slice_bounds-exec-count : goal.slice_bounds-exec-count
slice_bounds-exec-count c = (step_ready c.args.word c.args.tape.now c.args.cells.now c.args.tape_place _ _ c.in_ok-counts.ensures).in_tape

pub slice_bounds-exec-start : goal.slice_bounds-exec-start
slice_bounds-exec-start c = omega (arith, (step_ready c.args.word c.args.tape.now c.args.cells.now c.args.tape_place _ _ c.in_ok-counts.ensures).in_tape)

pub exec-requires : goal.exec-requires
exec-requires c =
    let r = step_ready c.args.word c.args.tape.now c.args.cells.now c.args.tape_place _ _ c.in_ok-counts.ensures in record { words_in_bounds = rw (rest_part c.args.tape.now c.args.tape_place, length-drop) r.enough; cells_len = r.size }

pub returns-clause-cells : goal.returns-clause-cells
returns-clause-cells c = rw (← c.in_ok-counts.ensures) (rw (rest_part c.args.tape.now c.args.tape_place) at c.exec.ensures)
