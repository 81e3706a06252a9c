-- An equation of five bits holds where it holds in the 32 cases, which are computed: `tt` proves them.
-- Rests on Tests.
use mathlib.Core.Path.{◌≡◌, sym, ap, ap₂, ◌∙◌, subst}
use mathlib.Core.Bool.{Bool}
use Prim.Native.Nat.{ℕ, ◌+◌, ◌*◌, ◌/◌, ◌%◌, ◌<◌}
use native.Mathlib.Omega.{arith}
use lib.Dec.{T, eqb, eqb→eq}
use Rattle.bits.proofs.Digits.{bit_lt}
use Rattle.plans.proofs.Tests.{every, each}

-- an operation on the bits of a number
abbrev at_bits : (ℕ → ℕ → ℕ → ℕ → ℕ → ℕ) → ℕ → ℕ
at_bits f n = f (n % 2) (n / 2 % 2) (n / 4 % 2) (n / 8 % 2) (n / 16)

abbrev pub same_bits : (ℕ → ℕ → ℕ → ℕ → ℕ → ℕ) → (ℕ → ℕ → ℕ → ℕ → ℕ → ℕ) → ℕ → Bool
same_bits f g n = eqb (at_bits f n) (at_bits g n)

abbrev number : ℕ → ℕ → ℕ → ℕ → ℕ → ℕ
number a b c d e = a + 2 * b + 4 * c + 8 * d + 16 * e

pub by_bits : (f g : ℕ → ℕ → ℕ → ℕ → ℕ → ℕ) → T (every 32 (same_bits f g)) → (a b c d e : ℕ) → a < 2 → b < 2 → c < 2 → d < 2 → e < 2 → f a b c d e ≡ g a b c d e
by_bits f g t a b c d e ha hb hc hd he =
    sym (of_number f) ∙ eqb→eq _ _ (each 32 (same_bits f g) t (number a b c d e) (omega arith)) ∙ of_number g
  where
    odd : (a n : ℕ) → a < 2 → (a + 2 * n) % 2 ≡ a
    odd a n h = omega arith

    of_number : (f : ℕ → ℕ → ℕ → ℕ → ℕ → ℕ) → at_bits f (number a b c d e) ≡ f a b c d e
    of_number f =
        let n = number a b c d e in
        let p : n % 2 ≡ a = omega arith in
        let q : n / 2 % 2 ≡ b = let k : n / 2 ≡ b + 2 * (c + 2 * d + 4 * e) = omega arith in ap (λ (z : ℕ). z % 2) k ∙ odd b (c + 2 * d + 4 * e) hb in
        let r : n / 4 % 2 ≡ c = let k : n / 4 ≡ c + 2 * (d + 2 * e) = omega arith in ap (λ (z : ℕ). z % 2) k ∙ odd c (d + 2 * e) hc in
        let s : n / 8 % 2 ≡ d = let k : n / 8 ≡ d + 2 * e = omega arith in ap (λ (z : ℕ). z % 2) k ∙ odd d e hd in
        let u : n / 16 ≡ e = omega arith in
        ap₂ (λ (i j : ℕ). f i j (n / 4 % 2) (n / 8 % 2) (n / 16)) p q ∙ ap₂ (λ (i j : ℕ). f a b i j (n / 16)) r s ∙ ap (f a b c d) u

-- what is a bit in the 32 cases is one
pub bits_lt : (f : ℕ → ℕ → ℕ → ℕ → ℕ → ℕ) → T (every 32 (same_bits (λ a b c d e. f a b c d e % 2) f)) → (a b c d e : ℕ) → a < 2 → b < 2 → c < 2 → d < 2 → e < 2 → f a b c d e < 2
bits_lt f t a b c d e ha hb hc hd he = subst (λ (z : ℕ). z < 2) (by_bits (λ a b c d e. f a b c d e % 2) f t a b c d e ha hb hc hd he) (bit_lt (f a b c d e))
