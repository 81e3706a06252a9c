-- `translation::measure::counted` meets its contract.
use mathlib.Core.Path.{refl, sym, ap, ap₂}
use Prim.Native.Nat.{◌*◌}
use native.Mathlib.Nat.{mul-le-mul}
use native.Mathlib.Omega.{arith}
use lib.ListN.{length, drop_of_length-le}
use Rattle.checks.specs.Answers.{done}
use Rattle.masking.specs.Foretold.{foretold_words, foretold_tape}
use Rattle.word.proofs.Small.{length_le, tape_le}
use Rattle.translation.proofs.Counted.{least_length, summed, summed_as, summed_plain}
use Rattle.translation.proofs.measure.counted.Goals as goal
use Rattle.translation.proofs.measure.counted.Goals.{then-kind-eq-AND, else-kind-eq-AND, then-kind-eq-ADD, else-kind-eq-ADD}

pub overflow_sub-and_more : goal.overflow_sub-and_more
overflow_sub-and_more c = omega (arith, c.length.ensures, least_length c.args.n c.requires.le_n.0 c.requires.le_n.1 3)

pub overflow_sub-add_more : goal.overflow_sub-add_more
overflow_sub-add_more c = omega (arith, c.length-2.ensures, least_length c.args.n c.requires.le_n.0 c.requires.le_n.1 8)

pub overflow_mul-words : goal.overflow_mul-words
overflow_mul-words c = omega (arith, mul-le-mul c.requires.le_n.1 c.requires.plan_len_bound)

pub overflow_add-words : goal.overflow_add-words
overflow_add-words c = omega (arith, mul-le-mul c.requires.le_n.1 c.requires.plan_len_bound)

pub loop-w-init : goal.loop-w-init
loop-w-init c = summed _ _

pub overflow_add-words-then-kind-eq-AND : goal.overflow_add-words-then-kind-eq-AND
overflow_add-words-then-kind-eq-AND c =
    omega (arith, c.loop-w.invariant.words_small, mul-le-mul c.requires.le_n.1 c.requires.plan_len_bound, c.requires.plan_len_bound, c.length.ensures, length_le c.args.n c.requires.le_n.1 3)

pub overflow_add-tape : goal.overflow_add-tape
overflow_add-tape c =
    omega (arith, c.loop-w.invariant.tape_small, c.requires.plan_len_bound, c.tape-and_tape.ensures, tape_le c.args.n c.requires.le_n.1 3)

pub overflow_add-words-then-kind-eq-ADD : goal.overflow_add-words-then-kind-eq-ADD
overflow_add-words-then-kind-eq-ADD c =
    let most = mul-le-mul c.requires.le_n.1 c.requires.plan_len_bound in
    elim c.if-kind-eq-AND.branch [
      | then-kind-eq-AND v ↦
          omega (arith, v.words-is, c.loop-w.invariant.words_small, most, c.requires.plan_len_bound, c.length.ensures, c.length-2.ensures, length_le c.args.n c.requires.le_n.1 3, length_le c.args.n c.requires.le_n.1 8)
      | else-kind-eq-AND v ↦
          omega (arith, v.words-is, c.loop-w.invariant.words_small, most, c.requires.plan_len_bound, c.length-2.ensures, length_le c.args.n c.requires.le_n.1 8)
    ]

pub overflow_add-tape-then-kind-eq-ADD : goal.overflow_add-tape-then-kind-eq-ADD
overflow_add-tape-then-kind-eq-ADD c =
    elim c.if-kind-eq-AND.branch [
      | then-kind-eq-AND v ↦
          omega (arith, v.tape-is, c.loop-w.invariant.tape_small, c.requires.plan_len_bound, c.tape-and_tape.ensures, c.tape-add_tape.ensures, tape_le c.args.n c.requires.le_n.1 3, tape_le c.args.n c.requires.le_n.1 8)
      | else-kind-eq-AND v ↦
          omega (arith, v.tape-is, c.loop-w.invariant.tape_small, c.requires.plan_len_bound, c.tape-add_tape.ensures, tape_le c.args.n c.requires.le_n.1 8)
    ]

pub loop-w-preserved : goal.loop-w-preserved
loop-w-preserved c =
    let on = summed_as c.args.n c.requires.le_n.0 c.requires.le_n.1 c.args.plan.now c.loop-w.w-index c.loop-w.invariant (omega arith) in
    let same = summed_plain c.args.n c.requires.le_n.0 c.requires.le_n.1 c.args.plan.now c.loop-w.w-index c.loop-w.invariant (omega arith) in
    elim c.if-kind-eq-ADD.branch [
      | then-kind-eq-ADD w ↦
          elim c.if-kind-eq-AND.branch [
            | then-kind-eq-AND v ↦ absurd (omega (arith, w.if-kind-eq-ADD.true, v.if-kind-eq-AND.true))
            | else-kind-eq-AND v ↦
                on 8 _ _ (sym w.if-kind-eq-ADD.true) (omega (arith, w.words-is, v.words-is, c.length-2.ensures)) (omega (arith, w.tape-is, v.tape-is, c.tape-add_tape.ensures))
          ]
      | else-kind-eq-ADD w ↦
          elim c.if-kind-eq-AND.branch [
            | then-kind-eq-AND v ↦
                on 3 _ _ (sym v.if-kind-eq-AND.true) (omega (arith, w.words-is, v.words-is, c.length.ensures)) (omega (arith, w.tape-is, v.tape-is, c.tape-and_tape.ensures))
            | else-kind-eq-AND v ↦
                same _ _ _ refl v.if-kind-eq-AND.false w.if-kind-eq-ADD.false (omega (arith, w.words-is, v.words-is)) (omega (arith, w.tape-is, v.tape-is))
          ]
    ]

pub returns : goal.returns
returns c =
    let d = drop_of_length-le c.args.plan.now {i = c.loop-w.w-index} (omega arith) in
    ap₂ done (omega (arith, c.loop-w.invariant.words_left, ap (foretold_words c.args.n) d, ap (λ r. c.args.n * length r) d)) (omega (arith, c.loop-w.invariant.tape_left, ap (foretold_tape c.args.n) d))
