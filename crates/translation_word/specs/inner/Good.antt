-- Names that inner functions cite: nothing here has to be believed.
use Rattle.std.specs.Prelude.{◌≡◌, ℕ, Some}
use Rattle.word.specs.declared.step.Step.{Step}
use Rattle.word.specs.Encoding.{plan_step}
use Rattle.emission_rows.specs.declared.Cells.{Cells}

-- a good word of a plan, and its step
pub record PlanWord (w : ℕ) : Type 0 where
  pub step : Step
  pub apart : plan_step w ≡ Some step

-- where the shares of a plan's register lie
abbrev pub on_register : ℕ → Cells
on_register r = record { first = r; over = 32 }
