-- The built-in plans compute their operations, read their operands only, and have the figures that are said of them.
use Rattle.binary64.specs.Operations.{Operation, Product, Sum, Floor, Truncate, Nearest, on_words}
use Rattle.plans.specs.Computes.{Computes}
use Rattle.plans.specs.BuiltIns.{described, plan_of, BuiltIn, BuiltIns}
use Rattle.plans.proofs.product.Computes.{product_plan_is}
use Rattle.plans.proofs.sum.Computes.{sum_plan_is}
use Rattle.plans.proofs.floor.Computes.{floor_plan_is}
use Rattle.plans.proofs.truncate.Computes.{truncate_plan_is}
use Rattle.plans.proofs.nearest.Computes.{nearest_plan_is}
use Rattle.plans.proofs.Cost.{OfWords, product_words, sum_words, floor_words, truncate_words, nearest_words}

-- a plan that computes its operation, with what is computed of its words
built_in : (o : Operation) → Computes (plan_of o) (on_words o) → OfWords (described o) → BuiltIn o
built_in o c w = record { computes = c; inputs = w.0; figures = w.1 }

pub built_ins : BuiltIns
built_ins Product = built_in Product product_plan_is product_words
built_ins Sum = built_in Sum sum_plan_is sum_words
built_ins Floor = built_in Floor floor_plan_is floor_words
built_ins Truncate = built_in Truncate truncate_plan_is truncate_words
built_ins Nearest = built_in Nearest nearest_plan_is nearest_words
