-- Split and join, from document 01's section "Calls and their turn-downs": "Split (1 by the output's length, 6 below n − 1 tape words): shares
-- 1 and up are the tape's words in order. Join (1): the word, 0 when turned down." They name no counts.
use Rattle.std.specs.Prelude.{◌≡◌, not, cond, List, [], ◌∷◌, ℕ, ◌-◌, ltb, eqb, length, take, Result, Ok, Err}
use Rattle.bits.specs.Ops.{xor_w}
use Rattle.checks.specs.declared.answer.Answer.{Answer}
use Rattle.word.specs.Layout.{is_share_count}
use Rattle.checks.specs.declared.refusal.Refusal.{Refusal}
use Rattle.checks.specs.Answers.{done, refused, refusal_of, given, after_call}
use Rattle.split_join.specs.declared.Joined.{Joined}

-- the exclusive-or of words
abbrev pub xor_all : List ℕ → ℕ
xor_all [] = 0
xor_all (x ∷ xs) = xor_w x (xor_all xs)

-- share 0 is the word with the other shares taken out
abbrev pub split_of : ℕ → List ℕ → List ℕ
split_of word masks = xor_w word (xor_all masks) ∷ masks

unfoldable pub split_answer : ℕ → ℕ → Answer
split_answer n tape = given (not (is_share_count n)) (refused 1) (given (ltb tape (n - 1)) (refused 6) (done 0 0))

abbrev pub split_out : ℕ → List ℕ → List ℕ → List ℕ
split_out word tape out = after_call (split_answer (length out) (length tape)) (split_of word (take (length out - 1) tape)) out

unfoldable pub join_answer : ℕ → Answer
join_answer n = given (not (is_share_count n)) (refused 1) (done 0 0)

-- the word joined, 0 when turned down
abbrev pub joined_word : List ℕ → ℕ
joined_word xs = cond (eqb (join_answer (length xs)).number 0) (xor_all xs) 0

-- what join gives, as C has it
abbrev pub joined_of : Result ℕ Refusal → Joined
joined_of (Ok word) = record { answer = done 0 0; word = word }
joined_of (Err e) = record { answer = refusal_of e; word = 0 }

-- split and join go there and back: the shares, and the calls where split is not turned down
abbrev pub RoundTrip : Type 0
RoundTrip = (word : ℕ) (masks : List ℕ) → xor_all (split_of word masks) ≡ word

abbrev pub CallsRoundTrip : Type 0
CallsRoundTrip = (word : ℕ) (tape out : List ℕ) → (split_answer (length out) (length tape)).number ≡ 0 → joined_word (split_out word tape out) ≡ word

pub record SplitJoins : Type 0 where
  pub shares : RoundTrip
  pub calls : CallsRoundTrip
