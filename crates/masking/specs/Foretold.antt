-- The counts foretold for a plan by its words' kinds: "2Q for each AND among them and 24Q for each ADD", and the share words likewise.
use Rattle.std.specs.Prelude.{List, [], ◌∷◌, ℕ, ◌+◌, ◌≤◌, ◌≡◌, length}
use Rattle.word.specs.Encoding.{plan_step, kind_of}
use Rattle.word.specs.Layout.{length_of, tape_of, plan_max}
use Rattle.checks.specs.Answers.{first_bad}

-- share words, without the head: "Each n words", and for AND and ADD "5n² + 2" and "60n² + 21n + 24" (document 02, No. 4)
abbrev pub foretold_words : ℕ → List ℕ → ℕ
foretold_words n [] = 0
foretold_words n (w ∷ ws) = length_of (kind_of w) n + foretold_words n ws

-- tape words: "2Q for each AND among them and 24Q for each ADD; for the whole plan, Measure's tape words"
abbrev pub foretold_tape : ℕ → List ℕ → ℕ
foretold_tape n [] = 0
foretold_tape n (w ∷ ws) = tape_of (kind_of w) n + foretold_tape n ws

-- "a plan that Translate accepts for n": the share count is 2..8, the plan not too long and without a bad word
pub record Accepted (n : ℕ) (plan : List ℕ) : Type 0 where
  pub least : 2 ≤ n
  pub most : n ≤ 8
  pub short : length plan ≤ plan_max
  pub good : first_bad plan_step plan ≡ length plan
