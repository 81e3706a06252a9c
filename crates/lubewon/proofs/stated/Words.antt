-- The claims on step words, checking, the plain machine and the adder, field by field: what is narrowed, halved or asks for more fails here.
use Rattle.std.specs.Prelude.{Option, Some, None}
use mathlib.Core.Path.{◌≡◌}
use mathlib.Core.Bool.{Bool}
use mathlib.Core.Logic.{◌⊎◌}
use mathlib.Core.List.{List, [], ◌∷◌, ◌++◌}
use Prim.Native.Nat.{ℕ, ◌^◌, ◌≤◌, ◌<◌}
use lib.Dec.{T}
use lib.ListN.{length, get_or, set}
use Rattle.bits.specs.Ops.{add_w}
use Rattle.bits.specs.Adder.{adder}
use Rattle.word.specs.declared.step.Step.{Step}
use Rattle.word.specs.Encoding.{taken, plan_step, word_of, in_plan, in_program}
use Rattle.word.specs.Table.{dest, becomes}
use Rattle.word.specs.Parts.{OfParts, OfNone, Exact, WordsExact}
use Rattle.checks.specs.Answers.{FirstBad, first_bad}
use Rattle.plain.specs.Machine.{run}
use Rattle.plain.specs.Laws.{Laws}
use Rattle.lubewon.specs.Claims.{Claims}
use Rattle.lubewon.proofs.stated.Conditions.{AllWords}

module _ {rule : Step → Bool} {w : ℕ} (h : OfParts rule w) where
  of_parts_step : Step
  of_parts_step = h.step

  of_parts_apart : taken rule w ≡ Some h.step
  of_parts_apart = h.apart

  of_parts_in_range : T (rule h.step)
  of_parts_in_range = h.in_range

  of_parts_together : word_of h.step ≡ w
  of_parts_together = h.together

module _ {rule : Step → Bool} {w : ℕ} (h : OfNone rule w) where
  of_none_apart : taken rule w ≡ None
  of_none_apart = h.apart

  of_none_none : (s : Step) → T (rule s) → word_of s ≡ w → ⊥
  of_none_none = h.none

module _ {rule : Step → Bool} (h : Exact rule) where
  exact_back : (s : Step) → T (rule s) → (word_of s < 2 ^ 32) × (taken rule (word_of s) ≡ Some s)
  exact_back = h.back

  exact_every : (w : ℕ) → w < 2 ^ 32 → OfParts rule w ⊎ OfNone rule w
  exact_every = h.every

module _ (h : WordsExact) where
  words_exact_plans : Exact in_plan
  words_exact_plans = h.plans

  words_exact_programs : Exact in_program
  words_exact_programs = h.programs

module _ {step : ℕ → Option Step} {l : List ℕ} {place : ℕ} (h : FirstBad step l place) where
  first_bad_within : place ≤ length l
  first_bad_within = h.within

  first_bad_good : (k : ℕ) → k < place → (s : Step) × (step (get_or l k 0) ≡ Some s)
  first_bad_good = h.good

  first_bad_bad : place < length l → step (get_or l place 0) ≡ None
  first_bad_bad = h.bad

module _ (h : Laws) where
  laws_one : (w : ℕ) (s : Step) (cells : List ℕ) → plan_step w ≡ Some s
      → run (w ∷ []) cells ≡ set cells (dest s) (becomes s (λ c. get_or cells c 0) 0)
  laws_one = h.one

  laws_append : (p q cells : List ℕ) → run (p ++ q) cells ≡ run q (run p cells)
  laws_append = h.append

  laws_empty : (cells : List ℕ) → run [] cells ≡ cells
  laws_empty = h.empty

  laws_size : (plan cells : List ℕ) → length (run plan cells) ≡ length cells
  laws_size = h.size

  laws_words : (plan cells : List ℕ) → AllWords cells → AllWords (run plan cells)
  laws_words = h.words

module _ (C : Claims) where
  words_exact : WordsExact
  words_exact = C.words_exact

  first_bad_is : (step : ℕ → Option Step) (l : List ℕ) → FirstBad step l (first_bad step l)
  first_bad_is = C.first_bad_is

  plain_machine : Laws
  plain_machine = C.plain_machine

  adder_adds : (a b : ℕ) → a < 2 ^ 64 → b < 2 ^ 64 → adder a b ≡ add_w a b
  adder_adds = C.adder
