-- The input's plan words: those of its chunks of four bytes, and how many there are. Assumes nothing.
use mathlib.Core.Path.{◌≡◌, refl, sym, ap, ap₂, ◌∙◌}
use mathlib.Core.List.{List, [], ◌∷◌, map}
use Prim.Native.Nat.{ℕ, zero, suc, ◌-◌, ◌/◌}
use native.Mathlib.Omega.{arith}
use lib.ListN.{length, take, drop, get_or, length-drop}
use lib.Seq.{take_all}
use Rattle.std.specs.Int.{w32, from_le_bytes}
use Rattle.std.specs.Simd.{first_chunks}
use Rattle.listing_input.specs.Input.{words_of, count_of, plan_read}

-- the words are those of the chunks of four bytes
pub words_chunks : (k : ℕ) (l : List ℕ) → k ≡ length l / 4 → map (from_le_bytes w32) (first_chunks 4 k l) ≡ words_of l
words_chunks zero [] h = refl
words_chunks zero (a ∷ []) h = refl
words_chunks zero (a ∷ b ∷ []) h = refl
words_chunks zero (a ∷ b ∷ c ∷ []) h = refl
words_chunks zero (a ∷ b ∷ c ∷ d ∷ rest) h = absurd (omega arith)
words_chunks (suc k) [] h = absurd (omega arith)
words_chunks (suc k) (a ∷ []) h = absurd (omega arith)
words_chunks (suc k) (a ∷ b ∷ []) h = absurd (omega arith)
words_chunks (suc k) (a ∷ b ∷ c ∷ []) h = absurd (omega arith)
words_chunks (suc k) (a ∷ b ∷ c ∷ d ∷ rest) h = ap₂ (λ (w : ℕ) (ws : List ℕ). w ∷ ws) (omega arith) (words_chunks k rest (omega arith))

pub words_count : (l : List ℕ) → length (words_of l) ≡ length l / 4
words_count [] = refl
words_count (a ∷ []) = refl
words_count (a ∷ b ∷ []) = refl
words_count (a ∷ b ∷ c ∷ []) = refl
words_count (a ∷ b ∷ c ∷ d ∷ rest) = omega (arith, words_count rest)

-- the share count is the first byte
pub count_first : (input : List ℕ) → get_or input 0 0 ≡ count_of input
count_first [] = refl
count_first (n ∷ rest) = refl

-- the plan is what stands behind it
pub plan_behind : (input : List ℕ) → plan_read input ≡ words_of (drop 1 input)
plan_behind [] = refl
plan_behind (n ∷ rest) = refl

pub plan_count : (input : List ℕ) → length (plan_read input) ≡ (length input - 1) / 4
plan_count input = ap length (plan_behind input) ∙ words_count (drop 1 input) ∙ ap (λ (k : ℕ). k / 4) (length-drop 1 input)

-- bytes as the code has them behind the first
pub chunks_read : (input : List ℕ) {cs : List (List ℕ)}
    → cs ≡ first_chunks 4 (length (take (length input - 1) (drop 1 input)) / 4) (take (length input - 1) (drop 1 input))
    → map (from_le_bytes w32) cs ≡ plan_read input
chunks_read input e =
    let behind = take_all (length input - 1) (drop 1 input) (omega (arith, length-drop 1 input)) in
    ap (map (from_le_bytes w32)) (e ∙ ap (λ (b : List ℕ). first_chunks 4 (length b / 4) b) behind)
    ∙ words_chunks (length (drop 1 input) / 4) (drop 1 input) refl ∙ sym (plan_behind input)
