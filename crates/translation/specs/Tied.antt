-- What ties Translate to demand 3, which "starts from a plan that Translate accepts for n, the program being just the words it wrote".
use Rattle.std.specs.Prelude.{◌≡◌, List, ℕ, ◌+◌, ◌≤◌, length, take}
use Rattle.masking.specs.Translation.{headed}
use Rattle.masking.specs.Foretold.{Accepted, foretold_words}
use Rattle.masking.specs.Demand3.{Demand3}
use Rattle.translation.specs.Calls.{measured, translate_answer, translate_out}

-- of a call that is done: the plan is one that demand 3 speaks of, the words written, as many as the answer counts, are its share program with its head,
-- and demand 3 holds
pub record Tied (n : ℕ) (plan out : List ℕ) : Type 0 where
  pub accepted : Accepted n plan
  pub written : take (translate_answer n plan (length out)).words (translate_out n plan out) ≡ headed n plan
  pub demand3 : Demand3 n plan

pub record TranslateTied : Type 0 where
  pub done : (n : ℕ) (plan out : List ℕ) → (translate_answer n plan (length out)).number ≡ 0 → Tied n plan out
  -- and every plan that demand 3 speaks of is taken where there is room
  pub takes : (n : ℕ) (plan : List ℕ) (room : ℕ) → Accepted n plan → 1 + foretold_words n plan ≤ room → translate_answer n plan room ≡ measured n plan
