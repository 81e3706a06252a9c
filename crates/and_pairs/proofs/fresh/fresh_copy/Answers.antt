-- `and_pairs::fresh::fresh_copy` meets its contract: the shares one after the other.
use mathlib.Core.Path.{ap, ◌∙◌}
use native.Mathlib.Omega.{arith}
use lib.ListN.{length, length-set}
use Rattle.and_parts.specs.inner.Effects.{at, placed}
use Rattle.and_pairs.proofs.Refreshed.{fresh_near, fresh_words, half, fresh_begin, fresh_turn, fresh_end}
use Rattle.and_pairs.proofs.fresh.fresh_copy.Goals as goal

pub loop-k-init : goal.loop-k-init
loop-k-init c =
    (c.requires.le_n.2, fresh_begin c.args.tape.now c.args.t c.args.n (at (placed c.args.b c.args.over)) c.args.cells.now)

pub fresh_share-requires : goal.fresh_share-requires
fresh_share-requires c =
    (omega arith, c.requires.le_n.1, c.loop-k.invariant.0, c.requires.le_n.3, omega (arith, fresh_words c.args.n c.requires.le_n.0 c.requires.le_n.1))

pub loop-k-preserved : goal.loop-k-preserved
loop-k-preserved c =
    (ap length c.fresh_share.ensures ∙ length-set c.loop-k.cells _ _ ∙ c.loop-k.invariant.0, fresh_turn c.args.tape.now c.args.t c.args.n (at (placed c.args.b c.args.over)) c.loop-k.k (omega arith) c.args.cells.now c.loop-k.cells _ c.loop-k.invariant.1 c.fresh_share.ensures)

pub overflow_mul-result : goal.overflow_mul-result
overflow_mul-result c = omega (arith, (half c.args.n c.requires.le_n.0 c.requires.le_n.1).0)

pub overflow_add-result : goal.overflow_add-result
overflow_add-result c = omega (arith, (half c.args.n c.requires.le_n.0 c.requires.le_n.1).1, fresh_words c.args.n c.requires.le_n.0 c.requires.le_n.1)

pub returns : goal.returns
returns c =
    let b = placed c.args.b c.args.over in
    rw (fresh_end c.args.tape.now c.args.t c.args.n (at b) c.loop-k.k (omega arith) c.args.cells.now c.loop-k.cells c.loop-k.invariant.1, (half c.args.n c.requires.le_n.0 c.requires.le_n.1).1)
    (fresh_near c.args.n c.requires.le_n.0 c.requires.le_n.1 b c.requires.le_n.3 c.args.cells.now c.requires.le_n.2 (λ k. omega (arith, c.slice_known-1.given k)) c.args.tape.now c.args.t)
