-- `share_in_a_row::runs_in_a_row` meets its contract.
use mathlib.Core.Path.{◌≡◌, refl, sym, ap, ◌∙◌}
use Prim.Native.Nat.{◌+◌}
use native.Mathlib.Omega.{arith}
use lib.ListN.{get_or, drop}
use Rattle.checks.specs.declared.answer.Answer.{Answer}
use Rattle.masking.specs.Runs.{State, standing, told, runs_of, in_arow}
use Rattle.checks.specs.declared.refusal.Counts.{Counts}
use Rattle.share_in_a_row.proofs.Bounds.{run_within, counted, row_turn, no_runs}
use Rattle.masking.proofs.Demand3.{demand3}
use Rattle.share_in_a_row.proofs.runs_in_a_row.Goals as goal

pub loop-i-init : goal.loop-i-init
loop-i-init c = (omega arith, c.min-runs.ensures, refl, omega arith, omega arith, refl)

pub overflow_add-p : goal.overflow_add-p
overflow_add-p c =
    let w = run_within c.args.program.now c.args.tape.now (standing c.loop-i.cells c.loop-i.p c.loop-i.t) (told (get_or c.args.counts.now c.loop-i.i 0) (get_or c.args.budgets.now c.loop-i.i 0)) in
    let ew = ap (λ (k : Counts). k.words) c.unwrap_or-done.ensures ∙ (counted c.share_run-ran.result).0 ∙ ap (λ (x : Answer). x.words) c.share_run-ran.ensures.answer in
    let et = ap (λ (k : Counts). k.tape) c.unwrap_or-done.ensures ∙ (counted c.share_run-ran.result).1 ∙ ap (λ (x : Answer). x.tape) c.share_run-ran.ensures.answer in
    omega (arith, w.0, ew)

pub overflow_add-t : goal.overflow_add-t
overflow_add-t c =
    let w = run_within c.args.program.now c.args.tape.now (standing c.loop-i.cells c.loop-i.p c.loop-i.t) (told (get_or c.args.counts.now c.loop-i.i 0) (get_or c.args.budgets.now c.loop-i.i 0)) in
    let ew = ap (λ (k : Counts). k.words) c.unwrap_or-done.ensures ∙ (counted c.share_run-ran.result).0 ∙ ap (λ (x : Answer). x.words) c.share_run-ran.ensures.answer in
    let et = ap (λ (k : Counts). k.tape) c.unwrap_or-done.ensures ∙ (counted c.share_run-ran.result).1 ∙ ap (λ (x : Answer). x.tape) c.share_run-ran.ensures.answer in
    omega (arith, w.1, et)

pub loop-i-preserved : goal.loop-i-preserved
loop-i-preserved c =
    let w = run_within c.args.program.now c.args.tape.now (standing c.loop-i.cells c.loop-i.p c.loop-i.t) (told (get_or c.args.counts.now c.loop-i.i 0) (get_or c.args.budgets.now c.loop-i.i 0)) in
    let ew = ap (λ (k : Counts). k.words) c.unwrap_or-done.ensures ∙ (counted c.share_run-ran.result).0 ∙ ap (λ (x : Answer). x.words) c.share_run-ran.ensures.answer in
    let et = ap (λ (k : Counts). k.tape) c.unwrap_or-done.ensures ∙ (counted c.share_run-ran.result).1 ∙ ap (λ (x : Answer). x.tape) c.share_run-ran.ensures.answer in (
      omega arith,
      c.loop-i.invariant.1,
      c.share_run-ran.auto.cells ∙ c.loop-i.invariant.2,
      omega (arith, w.0, ew),
      omega (arith, w.1, et),
      c.loop-i.invariant.5 ∙ row_turn c.args.program.now c.args.tape.now (standing c.loop-i.cells c.loop-i.p c.loop-i.t) c.args.counts.now c.args.budgets.now c.loop-i.i (omega arith) (omega arith)
          ∙ ap (λ (st : State). in_arow c.args.program.now c.args.tape.now st (runs_of (drop (c.loop-i.i + 1) c.args.counts.now) (drop (c.loop-i.i + 1) c.args.budgets.now)))
          (λ j. standing (sym c.share_run-ran.ensures.cells j) (c.loop-i.p + sym ew j) (c.loop-i.t + sym et j)),
    )

pub shape_of-cells : goal.shape_of-cells
shape_of-cells c = c.loop-i.invariant.2

pub returns : goal.returns
returns c =
    let e : in_arow c.args.program.now c.args.tape.now (standing c.args.cells.now c.args.place c.args.tape_place) (runs_of c.args.counts.now c.args.budgets.now) ≡ standing c.loop-i.cells c.loop-i.p c.loop-i.t =
    c.loop-i.invariant.5 ∙ ap (in_arow c.args.program.now c.args.tape.now (standing c.loop-i.cells c.loop-i.p c.loop-i.t)) (no_runs c.args.counts.now c.args.budgets.now c.loop-i.i (omega arith)) in record { cells = sym (ap (λ (st : State). st.cells) e); program = sym (ap (λ (st : State). st.place) e); tape = sym (ap (λ (st : State). st.tape_place) e); holds = demand3 }
