-- The share run that defines a result, as a statement over any plan: document 01, "The result shares are exactly those that share run gives over
-- the same tape. The answer gives tape words used."
use Rattle.std.specs.Prelude.{◌≡◌, List, ℕ, ◌≤◌, ◌<◌, length}
use Rattle.checks.specs.Answers as answers
use Rattle.masking.specs.Translation.{program, headed}
use Rattle.masking.specs.Foretold.{foretold_tape}
use Rattle.masking.specs.Machine.{exec}
use Rattle.masked_call.specs.Shares.{placed, whole_run, finished}

-- it goes over the whole program, head included, and uses just the tape words that the call's answer gives; over a shorter
-- tape it is turned down with the call's number
pub record WholeRun (plan : List ℕ) (n : ℕ) (x y tape : List ℕ) : Type 0 where
  pub done : foretold_tape n plan ≤ length tape → whole_run plan n x y tape ≡ answers.done (length (headed n plan)) (foretold_tape n plan)
  pub short : length tape < foretold_tape n plan → whole_run plan n x y tape ≡ answers.refused 6
  -- what it leaves is what the words behind the head make of the start
  pub cells : foretold_tape n plan ≤ length tape → finished plan n x y tape ≡ exec (program n plan) tape (placed x y)

abbrev pub RunsWhole : List ℕ → Type 0
RunsWhole plan = (n : ℕ) → 2 ≤ n → n ≤ 8 → (x y tape : List ℕ) → WholeRun plan n x y tape
