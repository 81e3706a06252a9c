-- `add_head::put_before` meets its contract: the loop keeps that the words passed stand behind the head (Written).
use mathlib.Core.Path.{◌≡◌, refl, subst, ◌∙◌}
use mathlib.Core.List.{◌∷◌, ◌++◌}
use Prim.Native.Nat.{ℕ, ◌+◌}
use native.Mathlib.Omega.{arith}
use lib.ListN.{length, drop, set, length-set}
use Rattle.add_head.proofs.Written.{none_put, one_put, all_put}
use Rattle.add_head.proofs.put_before.Goals as goal

pub loop-i-init : goal.loop-i-init
loop-i-init c = (omega arith, refl, refl, none_put c.args.stored.now (set c.args.out.now 0 c.head.result))

pub bounds-out-i : goal.bounds-out-i
bounds-out-i c = omega (arith, length-set c.args.out.now 0 c.head.result, c.loop-i.invariant.2, c.requires)

pub loop-i-preserved : goal.loop-i-preserved
loop-i-preserved c =
    let D = set c.args.out.now 0 c.head.result in (
      omega arith,
      c.loop-i.invariant.1,
      length-set c.loop-i.out (1 + c.loop-i.i) _ ∙ c.loop-i.invariant.2,
      one_put c.args.stored.now D (omega (arith, length-set c.args.out.now 0 c.head.result, c.requires)) c.loop-i.i c.loop-i.out c.loop-i.invariant.3 (omega arith),
    )

pub returns : goal.returns
returns c =
    subst (λ (h : ℕ). c.loop-i.out ≡ (h ∷ c.args.stored.now) ++ drop (1 + length c.args.stored.now) c.args.out.now) c.head.ensures
    (all_put c.head.result c.args.stored.now c.args.out.now c.requires c.loop-i.i c.loop-i.out c.loop-i.invariant.3 (omega arith))
