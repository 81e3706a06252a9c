-- Registers that a plan reads before they are written: the search for the first word that reads a register neither known at the start nor written
-- by an earlier word, in the shape of the search for the first bad word (Answers), and the test that there is no such word.
use Rattle.std.specs.Prelude.{◌≡◌, Bool, false, ◌||◌, cond, List, [], ◌∷◌, ℕ, suc, ◌≤◌, ◌<◌, T, eqb, length, get_or, take, Option, Some, None}
use Rattle.word.specs.declared.step.Step.{Step}
use Rattle.word.specs.Encoding.{plan_step}
use Rattle.word.specs.Table.{dest, reads, Each, all_in}

abbrev pub member_of : List ℕ → ℕ → Bool
member_of [] r = false
member_of (q ∷ qs) r = eqb q r || member_of qs r

-- the registers known after a word, and after a plan's words: those known before, and each one written
abbrev pub written : Option Step → List ℕ → List ℕ
written (Some s) known = dest s ∷ known
written None known = known

abbrev pub known_after : List ℕ → List ℕ → List ℕ
known_after [] known = known
known_after (w ∷ ws) known = known_after ws (written (plan_step w) known)

-- a word of the search: past a step that reads known registers alone it goes on, with the one that the step writes known to the rest; it ends at a
-- step that reads another, and at a bad word
abbrev pub unset_of : Option Step → List ℕ → (List ℕ → ℕ) → ℕ
unset_of (Some s) known rest = cond (all_in (member_of known) (reads s)) (suc (rest (dest s ∷ known))) 0
unset_of None known rest = 0

-- the place from 0 where it ends, or the plan's length
abbrev pub first_unset : List ℕ → List ℕ → ℕ
first_unset known [] = 0
first_unset known (w ∷ ws) = unset_of (plan_step w) known (λ ks. first_unset ks ws)

-- a plan without such a word: each step reads only registers that are known at the start or written by an earlier step, and no word is bad
abbrev pub reads_only : List ℕ → List ℕ → Bool
reads_only plan known = eqb (first_unset known plan) (length plan)

-- every register that a step reads is one of these
abbrev pub ReadsOf : List ℕ → Step → Type 0
ReadsOf known s = Each (λ r. T (member_of known r)) (reads s)

-- what is proved of the place: every word before it is a step that reads what is known by then, and a step at it, unless it is the end, does not
pub record FirstUnset (known plan : List ℕ) (place : ℕ) : Type 0 where
  pub within : place ≤ length plan
  pub set : (k : ℕ) → k < place → (s : Step) × (plan_step (get_or plan k 0) ≡ Some s) × ReadsOf (known_after (take k plan) known) s
  pub unset : place < length plan → (s : Step) → plan_step (get_or plan place 0) ≡ Some s → ReadsOf (known_after (take place plan) known) s → ⊥

abbrev pub FirstUnsetFound : Type 0
FirstUnsetFound = (known plan : List ℕ) → FirstUnset known plan (first_unset known plan)
