-- `plan_copy::product_rows::Product`'s `write` meets its contract: the loop keeps that the words passed are written (Copying).
use mathlib.Core.Path.{refl, sym, ◌∙◌}
use Prim.Native.Nat.{◌<◌}
use native.Mathlib.Omega.{arith}
use lib.ListN.{length, length-set}
use Rattle.plans.specs.words.ProductPlan.{product_plan}
use Rattle.plans.proofs.product.Words.{by_rows}
use Rattle.plan_copy.proofs.Copying.{none_copied, one_copied, all_copied}
use Rattle.plan_copy.proofs.product_rows.ProductBuiltIn.write.Goals as goal

pub loop-i-init : goal.loop-i-init
loop-i-init c = (refl, none_copied product_plan c.args.out.now)

pub word-requires : goal.word-requires
word-requires c = omega (arith, c.loop-i.invariant.0, c.requires)

pub loop-i-preserved : goal.loop-i-preserved
loop-i-preserved c =
    let l : c.loop-i.i < length product_plan = omega (arith, c.loop-i.invariant.0, c.requires) in
    (length-set c.loop-i.out c.loop-i.i _ ∙ c.loop-i.invariant.0, one_copied product_plan c.args.out.now c.loop-i.out c.loop-i.i c.loop-i.invariant.1 c.requires _ l (c.word.ensures ∙ sym (by_rows.words c.loop-i.i l)))

pub returns : goal.returns
returns c =
    all_copied product_plan c.args.out.now c.loop-i.out c.loop-i.i c.loop-i.invariant.1 c.requires (omega (arith, c.loop-i.invariant.0, c.requires))
