-- `listing_input::list_answer` meets its contract where the input is not turned down.
use mathlib.Core.Path.{sym, ap, ◌∙◌}
use native.Mathlib.Omega.{arith}
use lib.ListN.{get_or, length-drop}
use borrow.Author.Tests.{not-false}
use Rattle.translation.specs.Calls.{measure_answer}
use Rattle.listing_lines.proofs.Placed.{all_taken}
use Rattle.listing_input.proofs.Words.{plan_count}
use Rattle.listing_input.proofs.Answered.{measured_then}
use Rattle.listing_input.proofs.list_answer.Goals as goal

pub returns : goal.returns
returns c =
    let input = c.args.input.now in
    let d = length-drop 1 input in
    let t = all_taken c.plan_words-count.ensures (omega (arith, plan_count input, d)) in
    c.measure.ensures ∙ ap (measure_answer (get_or input 0 0)) t
    ∙ sym (measured_then input (omega arith) (sym c.is_share_count.ensures ∙ not-false _ c.if-not-is_share_count.false-raw) (omega (arith, d)) (omega (arith, d)))
