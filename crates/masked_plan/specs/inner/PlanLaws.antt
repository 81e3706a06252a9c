-- The laws of a compiled plan.
-- Nothing here has to be believed: the contracts of the public calls do not cite it.
use Rattle.std.specs.Prelude.{◌≡◌, Bool, List, [], ◌∷◌, ℕ, T, length}
use Rattle.checks.specs.Unset.{known_after, member_of, reads_only}
use Rattle.masked_call.specs.inner.Inner.{GoodPlan, TakesTape}
use Rattle.compiled.specs.inner.Cut.{Cut}

pub record PlanLaws (kinds : ℕ → Bool) (runs : List (List ℕ)) (last_run gates plan : List ℕ) (gate_count units : ℕ) : Type 0 where
  pub cut : Cut kinds runs last_run gates plan
  pub count : length gates ≡ gate_count
  pub good : GoodPlan plan
  pub takes : TakesTape units plan
  -- it reads no register but the operands' before it is written, and writes register 2
  pub reads : T (reads_only plan (0 ∷ 1 ∷ []))
  pub writes : T (member_of (known_after plan (0 ∷ 1 ∷ [])) 2)
