-- Tests joined by `or`, and a test over a list of steps. Rests on word's Ranges for `and`.
use mathlib.Core.Bool.{Bool, true, false, ◌||◌}
use mathlib.Core.List.{List, [], ◌∷◌, ◌++◌, map}
use Prim.Native.Nat.{ℕ, zero, suc, ◌+◌, ◌≤◌, ◌<◌}
use native.Mathlib.Omega.{arith}
use lib.Dec.{T}
use lib.ListN.{take}
use Rattle.word.specs.declared.step.Step.{Step}
use Rattle.word.proofs.Ranges.{both, join}
use Rattle.masking.specs.Translation.{up_from}
use Rattle.masking.specs.Counts.{all_of}

pub or_left : (p q : Bool) → T p → T (p || q)
or_left true q h = tt
or_left false q h = absurd h

pub or_right : (p q : Bool) → T q → T (p || q)
or_right true q h = tt
or_right false q h = h

pub or_elim : {G : Type 0} (p q : Bool) → (T p → G) → (T q → G) → T (p || q) → G
or_elim true q f g h = f tt
or_elim false q f g h = g h

-- what holds of every step of a list
abbrev pub All : (Step → Type 0) → List Step → Type 0
All P [] = Unit {0}
All P (s ∷ ss) = P s × All P ss

-- the test over a list, and back
pub all_tested : (p : Step → Bool) (ss : List Step) → All (λ s. T (p s)) ss → T (all_of p ss)
all_tested p [] h = tt
all_tested p (s ∷ ss) h = join (p s) (all_of p ss) h.0 (all_tested p ss h.1)

pub tested_all : (p : Step → Bool) (ss : List Step) → T (all_of p ss) → All (λ s. T (p s)) ss
tested_all p [] h = tt
tested_all p (s ∷ ss) h = let e = both (p s) (all_of p ss) h in (e.0, tested_all p ss e.1)

module _ (P : Step → Type 0) where
  pub all_append : (ss ts : List Step) → All P ss → All P ts → All P (ss ++ ts)
  all_append [] ts a b = b
  all_append (s ∷ ss) ts a b = (a.0, all_append ss ts a.1 b)

  pub all_take : (m : ℕ) (ss : List Step) → All P ss → All P (take m ss)
  all_take zero ss h = tt
  all_take (suc m) [] h = tt
  all_take (suc m) (s ∷ ss) h = (h.0, all_take m ss h.1)

  -- one step for each of the numbers from s on
  pub all_from : (f : ℕ → Step) (s c : ℕ) → ((i : ℕ) → s ≤ i → i < s + c → P (f i)) → All P (map f (up_from s c))
  all_from f s zero h = tt
  all_from f s (suc c) h = (h s (omega arith) (omega arith), all_from f (suc s) c (λ i l m. h i (omega arith) (omega arith)))
