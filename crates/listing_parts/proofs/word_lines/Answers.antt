-- `listing_parts::word_lines` meets its contract.
use mathlib.Core.Path.{◌≡◌, sym, ◌∙◌}
use mathlib.Core.Bool.{true}
use Prim.Native.Nat.{◌≤◌}
use native.Mathlib.Omega.{arith}
use lib.ListN.{length}
use lib.Seq.{length-take-le}
use borrow.Author.Tests.{not-true, not-false}
use Rattle.word.specs.Encoding.{plan_step}
use Rattle.word.specs.Layout.{word_max, is_share_count}
use Rattle.masking.specs.Translation.{words_for}
use Rattle.word.proofs.Small.{share_range}
use Rattle.listing_lines.proofs.Placed.{wrote_empty}
use Rattle.listing_parts.proofs.PlanWord.{words_most, lines_of_is, lines_none, within, front}
use Rattle.listing_parts.proofs.word_lines.Goals as goal

pub returns-then-not-is_share_count : goal.returns-then-not-is_share_count
returns-then-not-is_share_count c = wrote_empty _ (lines_none _ _ (sym c.is_share_count.ensures ∙ not-true _ c.if-not-is_share_count.true-raw))

pub overflow_cast-n : goal.overflow_cast-n
overflow_cast-n c =
    let share : is_share_count c.args.n ≡ true = sym c.is_share_count.ensures ∙ not-false _ c.if-not-is_share_count.false-raw in
    let few : length (words_for c.args.n (plan_step c.args.w)) ≤ word_max = let r = share_range c.args.n (share) in
    words_most c.args.n c.args.w r.0 r.1 in
    omega (arith, (share_range c.args.n (share)).1)

pub plan_word-count-requires : goal.plan_word-count-requires
plan_word-count-requires c =
    let share : is_share_count c.args.n ≡ true = sym c.is_share_count.ensures ∙ not-false _ c.if-not-is_share_count.false-raw in
    let few : length (words_for c.args.n (plan_step c.args.w)) ≤ word_max = let r = share_range c.args.n (share) in
    words_most c.args.n c.args.w r.0 r.1 in
    let r = share_range c.args.n (share) in record { le_n = (omega (arith, r.0), r.1); w_in_bounds = few }

pub slice_bounds-words-end : goal.slice_bounds-words-end
slice_bounds-words-end c =
    let share : is_share_count c.args.n ≡ true = sym c.is_share_count.ensures ∙ not-false _ c.if-not-is_share_count.false-raw in
    let few : length (words_for c.args.n (plan_step c.args.w)) ≤ word_max = let r = share_range c.args.n (share) in
    words_most c.args.n c.args.w r.0 r.1 in
    within c.plan_word-count.ensures (few)

pub slice_bounds-hex_lines-end : goal.slice_bounds-hex_lines-end
slice_bounds-hex_lines-end c =
    let share : is_share_count c.args.n ≡ true = sym c.is_share_count.ensures ∙ not-false _ c.if-not-is_share_count.false-raw in
    let few : length (words_for c.args.n (plan_step c.args.w)) ≤ word_max = let r = share_range c.args.n (share) in
    words_most c.args.n c.args.w r.0 r.1 in
    sym (length-take-le _ _ (within c.plan_word-count.ensures (few)))

pub returns : goal.returns
returns c =
    let share : is_share_count c.args.n ≡ true = sym c.is_share_count.ensures ∙ not-false _ c.if-not-is_share_count.false-raw in
    let few : length (words_for c.args.n (plan_step c.args.w)) ≤ word_max = let r = share_range c.args.n (share) in
    words_most c.args.n c.args.w r.0 r.1 in
    rw (lines_of_is _ c.args.w (share), ← front c.plan_word-count.ensures (few)) c.hex_lines.ensures
