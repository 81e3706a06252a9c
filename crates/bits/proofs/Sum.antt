-- Sums of words: without common bits XOR is the sum; the full adder's identity; the carries of a sum.
-- Rests on Xor, Shift and lib.Bits's xor_add_and.
use mathlib.Core.Path.{◌≡◌, refl}
use Prim.Native.Nat.{ℕ, ◌+◌, ◌*◌, ◌/◌, ◌^◌, ◌<◌, min}
use native.Mathlib.Omega.{arith}
use lib.Arith.{bin_ind}
use lib.Bits as Bits
use lib.Bits.{differ}
use Rattle.bits.specs.Ops.{xor_w, and_w}
use Rattle.bits.proofs.Digits.{digits3, xor_half, xor_odd, and_half, and_odd, ext_half}
use Rattle.bits.proofs.Xor.{xor_zero_l, and_zero_l}

-- words without common bits
pub xor_disjoint : (a b : ℕ) → and_w a b ≡ 0 → xor_w a b ≡ a + b
unfolding xor_w and_w
xor_disjoint a b h = Bits.xor_disjoint a b h

-- a word above and one below a place
pub xor_packed : (a k b : ℕ) → b < 2 ^ k → xor_w (a * 2 ^ k) b ≡ a * 2 ^ k + b
unfolding xor_w
xor_packed a k b h = Bits.xor_shifted a k b h

pub xor_and_sum : (a b : ℕ) → xor_w a b + and_w a b * 2 ≡ a + b
unfolding xor_w and_w
xor_and_sum a b = Bits.xor_add_and a b

-- the majority of three words, bit by bit
abbrev pub maj : ℕ → ℕ → ℕ → ℕ
maj a b c = xor_w (and_w a b) (and_w (xor_w a b) c)

-- the full adder: (a ⊕ b ⊕ c) + 2 · maj(a, b, c) = a + b + c
pub full_adder : (a b c : ℕ) → xor_w (xor_w a b) c + maj a b c * 2 ≡ a + b + c
full_adder a b c =
    let e₁ : xor_w a b + and_w a b * 2 ≡ a + b = xor_and_sum a b in
    let e₂ : xor_w (xor_w a b) c + and_w (xor_w a b) c * 2 ≡ xor_w a b + c = xor_and_sum (xor_w a b) c in
    let d : xor_w (and_w a b) (and_w (xor_w a b) c) ≡ and_w a b + and_w (xor_w a b) c = xor_disjoint (and_w a b) (and_w (xor_w a b) c) (apart a b c) in
    omega arith
  where
    -- a carry is made or passed on, never both
    apart : (a b c : ℕ) → and_w (and_w a b) (and_w (xor_w a b) c) ≡ 0
    apart =
        bin_ind (λ (a : ℕ). (b c : ℕ) → and_w (and_w a b) (and_w (xor_w a b) c) ≡ 0) (λ b c. simp and_zero_l)
        λ a ih b c. ext_half _ 0 (simp (xor_half, and_half) (ih (b / 2) (c / 2)))
        (simp (xor_odd, and_odd) (digits3 (λ x y z. min (min x y) (min (differ x y) z)) (λ x y z. 0) refl refl refl refl refl refl refl refl a b c))

-- the majority as the plans' carry-save step writes it, with one AND
pub maj_one_and : (a b c : ℕ) → xor_w a (and_w (xor_w a b) (xor_w a c)) ≡ maj a b c
maj_one_and =
    bin_ind (λ (a : ℕ). (b c : ℕ) → xor_w a (and_w (xor_w a b) (xor_w a c)) ≡ maj a b c) (λ b c. simp (xor_zero_l, and_zero_l))
    λ a ih b c. ext_half _ _ (simp (xor_half, and_half) (ih (b / 2) (c / 2)))
    (simp (xor_odd, and_odd) (digits3 (λ x y z. differ x (min (differ x y) (differ x z))) (λ x y z. differ (min x y) (min (differ x y) z)) refl refl refl refl refl refl refl refl a b c))
