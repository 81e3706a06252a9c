-- Names that proofs cite: nothing here has to be believed.
use Rattle.std.specs.Prelude.{◌≡◌, List, ℕ, ◌-◌, ◌*◌, ◌≤◌, length}
use Rattle.word.specs.Encoding.{plan_step}
use Rattle.word.specs.Layout.{plan_max}
use Rattle.checks.specs.Answers.{first_bad}
use Rattle.masking.specs.Foretold.{foretold_tape}

-- a plan that is not too long and has no bad word
pub record GoodPlan (plan : List ℕ) : Type 0 where
  pub short : length plan ≤ plan_max
  pub good : first_bad plan_step plan ≡ length plan

-- tape words of a plan: `units` times n(n−1), one unit for each AND and 12 for each ADD
pub record TakesTape (units : ℕ) (plan : List ℕ) : Type 0 where
  pub most : units ≤ 12 * plan_max
  pub tape : (n : ℕ) → 2 ≤ n → n ≤ 8 → foretold_tape n plan ≡ units * (n * (n - 1))

-- cells that translated plans use: shares of registers, AND's scratch and ADD's helpers; the rest of 512 stay as they are
abbrev pub machine_cells : ℕ
machine_cells = 352
