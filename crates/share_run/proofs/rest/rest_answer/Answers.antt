-- `share_run::rest::rest_answer` meets its contract.
use mathlib.Core.Path.{◌≡◌, sym, ap, ap₂, ◌∙◌}
use Prim.Native.Nat.{◌+◌, ◌-◌}
use borrow.Author.Tests.{lt-ltb, le-ltb, eq-eqb}
use Rattle.checks.specs.Answers.{done}
use Rattle.masking.specs.Machine.{rands}
use Rattle.masking.specs.Runs.{due}
use Rattle.masking.proofs.OneRun.{due_length}
use Rattle.share_run.proofs.Parts.{due_part}
use Rattle.share_machine.proofs.ByKind.{part_good}
use Rattle.share_run.proofs.rest.rest_answer.Goals as goal

pub rands-used-requires : goal.rands-used-requires
rands-used-requires c =
    part_good c.args.program.now c.args.place (c.args.place + c.min-words.result - c.args.place) c.requires

pub returns-then-tape-tape_place-2 : goal.returns-then-tape-tape_place-2
returns-then-tape-tape_place-2 c =
    let counted : c.rands-used.result ≡ rands (due c.args.program.now c.args.place c.args.budget) = c.rands-used.ensures ∙ ap rands (due_part c.args.program.now c.args.place c.args.budget c.min-words.ensures) in
    sym (rw (eq-eqb _ _ c.if-cells-ne-CELLS.false, le-ltb _ _ c.if-program-place.false, le-ltb _ _ c.if-tape-tape_place.false, lt-ltb _ _ (rw (counted) at c.if-tape-tape_place-2.true)))

pub returns : goal.returns
returns c =
    let counted : c.rands-used.result ≡ rands (due c.args.program.now c.args.place c.args.budget) = c.rands-used.ensures ∙ ap rands (due_part c.args.program.now c.args.place c.args.budget c.min-words.ensures) in
    ap₂ done (c.min-words.ensures ∙ sym (due_length c.args.program.now c.args.place c.args.budget)) (counted)
    ∙ sym (rw (eq-eqb _ _ c.if-cells-ne-CELLS.false, le-ltb _ _ c.if-program-place.false, le-ltb _ _ c.if-tape-tape_place.false, le-ltb _ _ (rw (counted) at c.if-tape-tape_place-2.false)))
