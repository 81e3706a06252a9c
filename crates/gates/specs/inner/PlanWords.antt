-- Names for a plan's registers as places, for what ADD asks of them and for good plan words, cited by inner functions only: nothing here has to be believed.
use Rattle.std.specs.Prelude.{◌≡◌, Bool, ◌||◌, List, ℕ, ◌+◌, ◌≤◌, ◌<◌, eqb, length, Option, Some, None}
use Rattle.word.specs.declared.step.Step.{Step}
use Rattle.word.specs.Encoding.{plan_step}
use Rattle.masking.specs.Translation.{adding, blocks, scratch}
use Rattle.and_parts.specs.declared.once.Place.{Place}
use Rattle.and_parts.specs.inner.Effects.{Enough}

-- a register of a plan
abbrev pub OfPlan : Place → Type 0
OfPlan p = (p.base < 32) × (p.stride ≡ 32)

-- share 0 of ADD's helper register h
abbrev pub IsHelper : ℕ → Place → Type 0
IsHelper h p = p.base ≡ 288 + h

-- what ADD asks of its registers
pub record Adds (n : ℕ) (d a b : Place) (tape : List ℕ) (t : ℕ) (cells : List ℕ) : Type 0 where
  pub least : 2 ≤ n
  pub most : n ≤ 8
  pub size : length cells ≡ 512
  pub to : OfPlan d
  pub left : OfPlan a
  pub right : OfPlan b
  pub words : Enough tape t (blocks scratch n (adding d.base a.base b.base))

-- a word that is not bad
abbrev pub IsGood : Option Step → Type 0
IsGood (Some s) = Unit {0}
IsGood None = ⊥

abbrev pub GoodPlanWord : ℕ → Type 0
GoodPlanWord w = IsGood (plan_step w)

-- the kinds that join shares: 3 AND, 8 ADD
abbrev pub is_gate : ℕ → Bool
is_gate k = eqb k 3 || eqb k 8
