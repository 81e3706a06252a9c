-- `gates::add::rounds` meets its contract. Rests on Rounds for what is left before a round, and on and_parts' Running for steps done in parts.
use mathlib.Core.Path.{◌∙◌}
use mathlib.Core.List.{◌++◌}
use Prim.Native.Nat.{◌+◌}
use native.Mathlib.Omega.{arith}
use borrow.Author.Tests.{lt-ltb, le-ltb}
use Rattle.word.specs.declared.step.Step.TheVariants.{Xor}
use Rattle.masking.specs.Translation.{scratch, block, blocks, passed, r_g, r_t}
use Rattle.and_parts.specs.declared.once.Op.TheVariants as op
use Rattle.and_parts.proofs.Running.{start, part, blocks_part, blocks_enough}
use Rattle.gates.proofs.Named.{helper_named, once_ran}
use Rattle.gates.proofs.Rounds.{begun, mixed, ended, shift, from, shift_fits, next, final}
use Rattle.gates.proofs.add.rounds.Goals as goal
use Rattle.gates.proofs.add.rounds.Goals.{then-k-lt32, else-k-lt32}

pub loop-k-init : goal.loop-k-init
loop-k-init c = start _ _ _ _

pub begun-t-requires : goal.begun-t-requires
begun-t-requires c =
    let i = c.loop-k.k-index in
    let l = next c.args.n i c.loop-k.invariant (omega arith) in record { k_bound = (shift_fits i, c.requires.n_bound.0, l.size ∙ c.requires.n_bound.1, c.requires.n_bound.2, c.requires.n_bound.3, c.requires.n_bound.4); enough = blocks_enough c.args.n (begun (shift i)) (ended (shift i) ++ from (i + 1)) l c.requires.enough }

pub passed-t-requires : goal.passed-t-requires
passed-t-requires c =
    let i = c.loop-k.k-index in
    let l = blocks_part c.args.n (begun (shift i)) (ended (shift i) ++ from (i + 1)) (next c.args.n i c.loop-k.invariant (omega arith)) c.begun-t.ensures in record { k_bound = (shift_fits i, c.requires.n_bound.0, l.size ∙ c.requires.n_bound.1, c.requires.n_bound.2, c.requires.n_bound.3, c.requires.n_bound.4); enough = blocks_enough c.args.n (mixed ++ passed (shift i)) (from (i + 1)) (rw (lt-ltb (shift i) 32 c.if-k-lt32.true) at l) c.requires.enough }

pub each-requires : goal.each-requires
each-requires c =
    let i = c.loop-k.k-index in
    let l = blocks_part c.args.n (begun (shift i)) (ended (shift i) ++ from (i + 1)) (next c.args.n i c.loop-k.invariant (omega arith)) c.begun-t.ensures in
    (c.requires.n_bound.0, l.size ∙ c.requires.n_bound.1, tt, omega arith, omega arith, omega arith)

-- by the branch's arms: the round is done
pub loop-k-preserved : goal.loop-k-preserved
loop-k-preserved c =
    let i = c.loop-k.k-index in
    let l = blocks_part c.args.n (begun (shift i)) (ended (shift i) ++ from (i + 1)) (next c.args.n i c.loop-k.invariant (omega arith)) c.begun-t.ensures in
    let G = helper_named 1 (omega arith) in
    let T = helper_named 3 (omega arith) in
    elim c.if-k-lt32.branch [
      | then-k-lt32 x ↦
          rw (x.t-is, x.cells-is) (blocks_part c.args.n (mixed ++ passed (shift i)) (from (i + 1)) (rw (lt-ltb (shift i) 32 x.if-k-lt32.true) at l) x.passed-t.ensures)
      | else-k-lt32 x ↦
          rw (x.t-is, x.cells-is) (part (block scratch c.args.n (Xor r_g r_g r_t)) (blocks scratch c.args.n (from (i + 1))) (rw (le-ltb (shift i) 32 x.if-k-lt32.false) at l) (once_ran op.Xor c.args.n G G T c.args.tape.now c.begun-t.result x.each.ensures))
    ]

pub shape_of-cells : goal.shape_of-cells
shape_of-cells c = c.loop-k.invariant.size

pub returns : goal.returns
returns c = final c.args.n c.loop-k.k-index c.loop-k.invariant (omega arith)
