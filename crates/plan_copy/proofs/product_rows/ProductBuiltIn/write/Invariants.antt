-- The invariant of the loop of `product_rows::Product`'s `write`.
use mathlib.Core.Path.{◌≡◌}
use lib.ListN.{length}
use Rattle.plans.specs.words.ProductPlan.{product_plan}
use Rattle.plan_copy.proofs.Copying.{Copied}
use Rattle.plan_copy.proofs.product_rows.ProductBuiltIn.write.Given as goal

abbrev pub invariant-loop-i : goal.invariant-loop-i
invariant-loop-i l = (length l.out ≡ length l.initial.out) × Copied product_plan l.initial.out l.i l.out
