-- The built-in plans: one line for each operation with its plan and figures, and what is proved of it, one record over the operation.
use Rattle.std.specs.Prelude.{List, [], ◌∷◌, ℕ, T}
use Rattle.checks.specs.Unset.{reads_only}
use Rattle.binary64.specs.Operations.{Operation, Product, Sum, Floor, Truncate, Nearest, on_words}
use Rattle.plans.specs.Computes.{Computes}
use Rattle.plans.specs.Cost.{Figures}
use Rattle.plans.specs.words.ProductPlan.{product_plan}
use Rattle.plans.specs.words.SumPlan.{sum_plan}
use Rattle.plans.specs.words.FloorPlan.{floor_plan}
use Rattle.plans.specs.words.TruncatePlan.{truncate_plan}
use Rattle.plans.specs.words.NearestPlan.{nearest_plan}

-- an operation's plan, the registers that hold operands, and its words, with ANDs and ADDs among them
pub record Described : Type 0 where
  pub plan : List ℕ
  pub operands : List ℕ
  pub words : ℕ
  pub ands : ℕ
  pub adds : ℕ

abbrev entry : List ℕ → List ℕ → ℕ → ℕ → ℕ → Described
entry plan operands words ands adds = record { plan = plan; operands = operands; words = words; ands = ands; adds = adds }

abbrev pub described : Operation → Described
described Product = entry product_plan (0 ∷ 1 ∷ []) 948 76 0
described Sum = entry sum_plan (0 ∷ 1 ∷ []) 738 53 0
described Floor = entry floor_plan (0 ∷ []) 297 12 0
described Truncate = entry truncate_plan (0 ∷ []) 169 5 0
described Nearest = entry nearest_plan (0 ∷ []) 301 14 0

abbrev pub plan_of : Operation → List ℕ
plan_of o = (described o).plan

pub record BuiltIn (o : Operation) : Type 0 where
  pub computes : Computes (plan_of o) (on_words o)
  -- operands are all that is read before it is written
  pub inputs : T (reads_only (plan_of o) (described o).operands)
  pub figures : Figures (plan_of o) (described o).words (described o).ands (described o).adds

abbrev pub BuiltIns : Type 0
BuiltIns = (o : Operation) → BuiltIn o
