-- `share_run::run::share_run` meets its contract.
use Prim.Native.Nat.{◌-◌}
use native.Mathlib.Omega.{arith}
use lib.ListN.{length-drop}
use Rattle.masking.specs.Runs.{standing}
use Rattle.masking.proofs.Demand3.{demand3}
use Rattle.share_run.proofs.Done.{ready}
use Rattle.share_run.proofs.Parts.{due_part, rest_part}
use Rattle.share_run.proofs.run.share_run.Goals as goal

pub overflow_add-end : goal.overflow_add-end
overflow_add-end c =
    let r = ready c.args.n c.args.program.now c.args.tape.now (standing c.args.cells.now c.args.place c.args.tape_place) c.args.budget _ _ c.in_ok-counts.ensures in
    omega (arith, r.rest.within, r.smaller)

pub offset_bounds-program-place : goal.offset_bounds-program-place
offset_bounds-program-place c =
    let r = ready c.args.n c.args.program.now c.args.tape.now (standing c.args.cells.now c.args.place c.args.tape_place) c.args.budget _ _ c.in_ok-counts.ensures in
    omega (arith, r.rest.within, r.smaller)

pub slice_bounds-exec-end : goal.slice_bounds-exec-end
slice_bounds-exec-end c =
    let r = ready c.args.n c.args.program.now c.args.tape.now (standing c.args.cells.now c.args.place c.args.tape_place) c.args.budget _ _ c.in_ok-counts.ensures in
    omega (arith, r.rest.within, r.smaller)

pub offset_bounds-tape-tape_place : goal.offset_bounds-tape-tape_place
offset_bounds-tape-tape_place c =
    let r = ready c.args.n c.args.program.now c.args.tape.now (standing c.args.cells.now c.args.place c.args.tape_place) c.args.budget _ _ c.in_ok-counts.ensures in
    omega (arith, r.rest.in_tape)

pub slice_bounds-exec-count-2 : goal.slice_bounds-exec-count-2
slice_bounds-exec-count-2 c =
    let r = ready c.args.n c.args.program.now c.args.tape.now (standing c.args.cells.now c.args.place c.args.tape_place) c.args.budget _ _ c.in_ok-counts.ensures in
    omega (arith, r.rest.in_tape)

pub slice_bounds-exec-start-2 : goal.slice_bounds-exec-start-2
slice_bounds-exec-start-2 c =
    let r = ready c.args.n c.args.program.now c.args.tape.now (standing c.args.cells.now c.args.place c.args.tape_place) c.args.budget _ _ c.in_ok-counts.ensures in
    omega (arith, r.rest.in_tape)

pub exec-requires : goal.exec-requires
exec-requires c =
    let r = ready c.args.n c.args.program.now c.args.tape.now (standing c.args.cells.now c.args.place c.args.tape_place) c.args.budget _ _ c.in_ok-counts.ensures in
    let e = due_part c.args.program.now c.args.place c.args.budget r.smaller in
    record { words_in_bounds = rw (e, rest_part c.args.tape.now c.args.tape_place, length-drop) r.rest.enough; cells_len = r.rest.size }

pub returns-in_err-counts-clause-holds : goal.returns-in_err-counts-clause-holds
returns-in_err-counts-clause-holds c = demand3

pub returns-clause-holds : goal.returns-clause-holds
returns-clause-holds c = demand3

pub returns-clause-cells : goal.returns-clause-cells
returns-clause-cells c =
    let r = ready c.args.n c.args.program.now c.args.tape.now (standing c.args.cells.now c.args.place c.args.tape_place) c.args.budget _ _ c.in_ok-counts.ensures in
    let e = due_part c.args.program.now c.args.place c.args.budget r.smaller in
    rw (← c.in_ok-counts.ensures) (rw (e, rest_part c.args.tape.now c.args.tape_place) at c.exec.ensures)
