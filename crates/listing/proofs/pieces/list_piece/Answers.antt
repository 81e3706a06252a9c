-- `listing::pieces::list_piece` meets its contract.
use Rattle.listing_parts.proofs.Parts.{part_ends}
use Rattle.listing.proofs.Piecewise.{listed_most, first_piece, next_piece}
use Rattle.listing_lines.proofs.Placed.{counts, all_given, all_taken}
use native.Mathlib.Omega.{arith}
use Rattle.listing.proofs.pieces.list_piece.Goals as goal

pub returns-then-from-eq0 : goal.returns-then-from-eq0
returns-then-from-eq0 c =
    first_piece c.if-from-eq0.true (all_given c.listed_words-count.ensures (listed_most _)) c.opening-bytes.ensures

pub slice_bounds-plan-end : goal.slice_bounds-plan-end
slice_bounds-plan-end c = (counts c.listed_words-count.ensures).0

pub slice_bounds-list_part-end : goal.slice_bounds-list_part-end
slice_bounds-list_part-end c = (counts c.listed_words-count.ensures).1

pub overflow_add-result : goal.overflow_add-result
overflow_add-result c =
    let h = listed_most _ in
    omega (arith, part_ends c.list_part-part.ensures, (counts c.listed_words-count.ensures).1, all_given c.listed_words-count.ensures h, h)

pub returns : goal.returns
returns c =
    let h = listed_most _ in
    next_piece (omega arith) (all_given c.listed_words-count.ensures h)
    (rw (all_taken c.listed_words-count.ensures h, c.share_count.ensures) at c.list_part-part.ensures)
