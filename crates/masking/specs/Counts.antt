-- What document 01's section "Translation for n shares", for AND and ADD document 02's No. 4, and for the limit its No. 7, say of lengths, tape words and
-- cells.
use Rattle.std.specs.Prelude.{◌≡◌, Bool, true, ◌&&◌, ◌||◌, List, [], ◌∷◌, ℕ, ◌*◌, ◌+◌, ◌-◌, ◌%◌, ◌≤◌, T, ltb, leb, length}
use Rattle.word.specs.declared.step.Step.{Step}
use Rattle.word.specs.Encoding.{program_step, in_plan, in_program, kind_number}
use Rattle.word.specs.Table.{naming}
use Rattle.word.specs.Layout.{length_of, tape_of, program_max, headed_max}
use Rattle.checks.specs.Answers.{first_bad}
use Rattle.masking.specs.Translation.{scratch, scratch_cells, translated, program}
use Rattle.masking.specs.Foretold.{Accepted, foretold_words, foretold_tape}
use Rattle.masking.specs.Machine.{rands_of, rands}

-- a cell that translations for n shares name: a share of a register, scratch y or z of a share, t, u, or a share of one of the four helpers
abbrev pub used_cell : ℕ → ℕ → Bool
used_cell n c =
    ltb c (32 * n)
    || (leb 256 c && ltb c (256 + n)
    || (leb 264 c && ltb c (264 + n)
    || (leb 272 c && ltb c 274
    || (leb 288 c && (ltb c (288 + 8 * n) && ltb ((c - 288) % 8) 4)))))

-- a test of each step of a list
abbrev pub all_of : (Step → Bool) → List Step → Bool
all_of p [] = true
all_of p (s ∷ ss) = p s && all_of p ss

-- one plan step's translation for n shares: AND's "length becomes 5n² + 2" (document 02, No. 4), "2Q tape words" and so on; words of kinds
-- 1..7 and 9; and only cells that the section names
pub record StepCounts (n : ℕ) (s : Step) : Type 0 where
  pub words : length (translated n s) ≡ length_of (kind_number s) n
  pub tape : rands_of (translated n s) ≡ tape_of (kind_number s) n
  pub good : T (all_of in_program (translated n s))
  pub cells : T (all_of (naming (used_cell n)) (translated n s))

-- a plan's share words, without the head: their counts are those foretold, none is bad, and there are at most "8,257,536 words"
pub record PlanCounts (n : ℕ) (plan : List ℕ) : Type 0 where
  pub words : length (program n plan) ≡ foretold_words n plan
  pub tape : rands (program n plan) ≡ foretold_tape n plan
  pub good : first_bad program_step (program n plan) ≡ length (program n plan)
  pub longest : length (program n plan) ≤ program_max

pub record Counts : Type 0 where
  pub step : (n : ℕ) → 2 ≤ n → n ≤ 8 → (s : Step) → T (in_plan s) → StepCounts n s
  pub plan : (n : ℕ) (plan : List ℕ) → Accepted n plan → PlanCounts n plan
  -- document 01's figures, with AND's and ADD's words by document 02, No. 4 (document 01: at n = 2 16 and 234, at n = 8 304 and 3,816)
  pub at_2 : (length_of 3 2 ≡ 22) × (tape_of 3 2 ≡ 2) × (length_of 8 2 ≡ 306) × (tape_of 8 2 ≡ 24)
  pub at_8 : (length_of 3 8 ≡ 322) × (tape_of 3 8 ≡ 56) × (length_of 8 8 ≡ 4032) × (tape_of 8 8 ≡ 672)
  -- "the longest share program 8,257,536 words", and with its head one more (document 02, No. 7)
  pub limit : program_max ≡ 8257536
  pub headed_limit : headed_max ≡ 8257537
  -- "those 2n + 2 cells": the entries of the list that the wiping goes through
  pub scratch_count : (n : ℕ) → length (scratch_cells scratch n) ≡ 2 * n + 2
