-- What holds of a built-in plan, whose words document 01 leaves free: "at most 2,048 words, none bad, the operation's result in register 2".
use Rattle.std.specs.Prelude.{◌≡◌, List, ℕ, ◌^◌, ◌≤◌, ◌<◌, length, get_or, Some}
use Rattle.word.specs.declared.step.Step.{Step}
use Rattle.word.specs.Encoding.{plan_step}
use Rattle.word.specs.Layout.{plan_max}
use Rattle.checks.specs.Answers.{first_bad}
use Rattle.plain.specs.Machine.{run}

-- "with operands in registers 0 and 1 and the result in 2", whatever the other registers hold at the start
pub record Computes (plan : List ℕ) (op : ℕ → ℕ → ℕ) : Type 0 where
  pub short : length plan ≤ plan_max
  pub none_bad : first_bad plan_step plan ≡ length plan
  -- "checked once as a whole", and so in each entry
  pub entries : (i : ℕ) → i < length plan → (s : Step) × (plan_step (get_or plan i 0) ≡ Some s)
  pub result : (cells : List ℕ) → length cells ≡ 32 → ((r : ℕ) → get_or cells r 0 < 2 ^ 64)
      → get_or (run plan cells) 2 0 ≡ op (get_or cells 0 0) (get_or cells 1 0)
