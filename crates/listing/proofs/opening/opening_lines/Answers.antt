-- `listing::opening::opening_lines` meets its contract.
use mathlib.Core.Path.{refl, sym}
use native.Mathlib.Omega.{arith}
use lib.Seq.{length-take-le}
use Rattle.listing_lines.proofs.Placed.{appends_long, line_taken}
use Rattle.listing.proofs.Opened.{first_ends, opened, opening_lines_most}
use Rattle.listing.proofs.opening.opening_lines.Goals as goal

pub slice_bounds-hex_lines-count : goal.slice_bounds-hex_lines-count
slice_bounds-hex_lines-count c = omega (arith, first_ends _ _ _ refl c.first_line-first.ensures)

pub slice_bounds-text-start : goal.slice_bounds-text-start
slice_bounds-text-start c = omega (arith, first_ends _ _ _ refl c.first_line-first.ensures)

pub overflow_add-text : goal.overflow_add-text
overflow_add-text c =
    let a = opened c.args.n c.args.counts.words c.args.counts.tape refl c.first_line-first.ensures c.head.ensures c.hex_lines-second.ensures in
    let m = opening_lines_most c.args.n c.args.counts.words c.args.counts.tape in
    omega (arith, a.ends, m)

pub slice_bounds-text-end-2 : goal.slice_bounds-text-end-2
slice_bounds-text-end-2 c =
    let a = opened c.args.n c.args.counts.words c.args.counts.tape refl c.first_line-first.ensures c.head.ensures c.hex_lines-second.ensures in
    let m = opening_lines_most c.args.n c.args.counts.words c.args.counts.tape in
    omega (arith, a.ends, m, appends_long a)

pub slice_bounds-put_text-end : goal.slice_bounds-put_text-end
slice_bounds-put_text-end c =
    let a = opened c.args.n c.args.counts.words c.args.counts.tape refl c.first_line-first.ensures c.head.ensures c.hex_lines-second.ensures in
    let m = opening_lines_most c.args.n c.args.counts.words c.args.counts.tape in
    sym (length-take-le _ _ (omega (arith, a.ends, m, appends_long a)))

pub returns : goal.returns
returns c =
    let a = opened c.args.n c.args.counts.words c.args.counts.tape refl c.first_line-first.ensures c.head.ensures c.hex_lines-second.ensures in
    let m = opening_lines_most c.args.n c.args.counts.words c.args.counts.tape in
    rw (← line_taken (omega (arith, m)) a) c.put_text.ensures
