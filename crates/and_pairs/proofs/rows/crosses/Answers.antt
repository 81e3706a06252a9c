-- `and_pairs::rows::crosses` meets its contract: rows one after the other.
use mathlib.Core.Path.{ap, ◌∙◌}
use native.Mathlib.Omega.{arith}
use Rattle.masking.specs.Machine.{rands_of}
use Rattle.and_parts.specs.inner.Effects.{at, placed}
use Rattle.and_parts.proofs.Toward.{begin, renamed, whole, near_size}
use Rattle.and_pairs.proofs.RowByRow.{all_rows, no_rows, row_words, next_row}
use Rattle.and_pairs.proofs.rows.crosses.Goals as goal

pub loop-i-init : goal.loop-i-init
loop-i-init c =
    let e = all_rows (at (placed c.args.a c.args.over)) c.args.n in
    (c.requires.n_bound.1, omega (arith, c.requires.enough, ap rands_of e), renamed e (begin _ _ _ _))

pub cross_row-t-requires : goal.cross_row-t-requires
cross_row-t-requires c = record { i_lt_n = (omega arith, c.requires.n_bound.0, c.loop-i.invariant.0, c.requires.n_bound.2); enough = omega (arith, row_words (at (placed c.args.a c.args.over)) c.args.n c.loop-i.i (omega arith)) }

pub loop-i-preserved : goal.loop-i-preserved
loop-i-preserved c =
    let a = at (placed c.args.a c.args.over) in
    (near_size c.cross_row-t.ensures ∙ c.loop-i.invariant.0, omega (arith, row_words a c.args.n c.loop-i.i (omega arith), c.cross_row-t.ensures.place), next_row a c.args.n c.loop-i.i (omega arith) c.loop-i.invariant.2 c.cross_row-t.ensures)

pub returns : goal.returns
returns c =
    whole (renamed (no_rows (at (placed c.args.a c.args.over)) c.args.n c.loop-i.i (omega arith)) c.loop-i.invariant.2)
