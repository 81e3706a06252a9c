-- `split_join::mask` meets its contract: the loop keeps that the shares passed are the tape's words, taken out of the word (SplitJoin).
use mathlib.Core.Path.{◌≡◌, refl, ap, ◌∙◌}
use Prim.Native.Nat.{ℕ, ◌+◌, ◌-◌, ◌<◌}
use native.Mathlib.Omega.{arith}
use lib.ListN.{length, take, length-set}
use Rattle.bits.specs.Ops.{xor_w}
use Rattle.split_join.specs.SplitJoin.{split_of}
use Rattle.split_join.proofs.SplitJoin.{none_masked, one_masked, all_masked}
use Rattle.split_join.proofs.mask.Goals as goal

pub loop-i-init : goal.loop-i-init
loop-i-init c =
    (omega arith, omega arith, refl, none_masked c.args.word c.args.tape.now c.args.out.now)

pub loop-i-preserved : goal.loop-i-preserved
unfolding xor_w
loop-i-preserved c =
    let room : c.loop-i.i + 1 < length c.args.out.now = omega arith in (
      omega arith,
      c.loop-i.invariant.1,
      length-set c.loop-i.out (c.loop-i.i + 1) _ ∙ c.loop-i.invariant.2,
      one_masked c.args.word c.args.tape.now c.args.out.now c.loop-i.i c.loop-i.out c.loop-i.first c.loop-i.invariant.3 room (omega arith),
    )

pub returns : goal.returns
returns c =
    let e : length c.args.out.now ≡ c.loop-i.i + 1 = omega arith in
    let f : c.loop-i.i ≡ length c.args.out.now - 1 = omega arith in
    all_masked c.args.word c.args.tape.now c.args.out.now c.loop-i.i c.loop-i.out c.loop-i.first c.loop-i.invariant.3 e
    ∙ ap (λ (k : ℕ). split_of c.args.word (take k c.args.tape.now)) f
