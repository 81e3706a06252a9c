-- The ring of words: XOR is a group of which each word is its own inverse, AND distributes over it, NOT is XOR with all ones.
-- Rests on Digits; commutativity, zeros and bounds are lib.Bits's, at the word operations' names.
use mathlib.Core.Path.{◌≡◌, refl, sym, ap, ap₂, ◌∙◌}
use Prim.Native.Nat.{ℕ, ◌-◌, ◌/◌, ◌^◌, ◌<◌, min}
use native.Mathlib.Omega.{arith}
use native.Mathlib.Nat.{mod-eq_of_lt}
use lib.Arith.{bin_ind}
use lib.Bits as Bits
use lib.Bits.{differ}
use Rattle.bits.specs.Ops.{xor_w, and_w, not_w}
use Rattle.bits.proofs.Digits.{digits3, xor_half, xor_odd, and_half, and_odd, ext_half}

pub xor_zero_l : (b : ℕ) → xor_w 0 b ≡ b
unfolding xor_w
xor_zero_l b = refl

pub xor_zero : (a : ℕ) → xor_w a 0 ≡ a
unfolding xor_w
xor_zero a = Bits.xor_zero_r a

pub xor_self : (a : ℕ) → xor_w a a ≡ 0
unfolding xor_w
xor_self a = Bits.xor_self a

pub xor_comm : (a b : ℕ) → xor_w a b ≡ xor_w b a
unfolding xor_w
xor_comm a b = Bits.xor_comm a b

pub and_zero_l : (b : ℕ) → and_w 0 b ≡ 0
unfolding and_w
and_zero_l b = refl

pub and_zero : (a : ℕ) → and_w a 0 ≡ 0
unfolding and_w
and_zero a = Bits.and_zero_r a

pub and_comm : (a b : ℕ) → and_w a b ≡ and_w b a
unfolding and_w
and_comm a b = Bits.and_comm a b

pub xor_assoc : (a b c : ℕ) → xor_w (xor_w a b) c ≡ xor_w a (xor_w b c)
xor_assoc =
    bin_ind (λ (a : ℕ). (b c : ℕ) → xor_w (xor_w a b) c ≡ xor_w a (xor_w b c)) (λ b c. simp xor_zero_l)
    λ a ih b c. ext_half _ _ (simp xor_half (ih (b / 2) (c / 2)))
    (simp xor_odd (digits3 (λ x y z. differ (differ x y) z) (λ x y z. differ x (differ y z)) refl refl refl refl refl refl refl refl a b c))

pub and_assoc : (a b c : ℕ) → and_w (and_w a b) c ≡ and_w a (and_w b c)
and_assoc =
    bin_ind (λ (a : ℕ). (b c : ℕ) → and_w (and_w a b) c ≡ and_w a (and_w b c)) (λ b c. simp and_zero_l)
    λ a ih b c. ext_half _ _ (simp and_half (ih (b / 2) (c / 2)))
    (simp and_odd (digits3 (λ x y z. min (min x y) z) (λ x y z. min x (min y z)) refl refl refl refl refl refl refl refl a b c))

-- AND over XOR
pub and_xor : (a b c : ℕ) → and_w a (xor_w b c) ≡ xor_w (and_w a b) (and_w a c)
and_xor =
    bin_ind (λ (a : ℕ). (b c : ℕ) → and_w a (xor_w b c) ≡ xor_w (and_w a b) (and_w a c)) (λ b c. simp (and_zero_l, xor_zero_l))
    λ a ih b c. ext_half _ _ (simp (xor_half, and_half) (ih (b / 2) (c / 2)))
    (simp (xor_odd, and_odd) (digits3 (λ x y z. min x (differ y z)) (λ x y z. differ (min x y) (min x z)) refl refl refl refl refl refl refl refl a b c))

pub and_xor_l : (a b c : ℕ) → and_w (xor_w a b) c ≡ xor_w (and_w a c) (and_w b c)
and_xor_l a b c = and_comm (xor_w a b) c ∙ and_xor c a b ∙ ap₂ xor_w (and_comm c a) (and_comm c b)

pub xor_cancel : (a b : ℕ) → xor_w a (xor_w a b) ≡ b
xor_cancel a b = sym (xor_assoc a a b) ∙ ap (λ (x : ℕ). xor_w x b) (xor_self a) ∙ xor_zero_l b

pub xor_cancel_r : (a b : ℕ) → xor_w (xor_w a b) b ≡ a
xor_cancel_r a b = xor_assoc a b b ∙ ap (xor_w a) (xor_self b) ∙ xor_zero a

pub xor_swap : (a b c : ℕ) → xor_w a (xor_w b c) ≡ xor_w b (xor_w a c)
xor_swap a b c = sym (xor_assoc a b c) ∙ ap (λ (x : ℕ). xor_w x c) (xor_comm a b) ∙ xor_assoc b a c

pub xor_swap_r : (a b c : ℕ) → xor_w (xor_w a b) c ≡ xor_w (xor_w a c) b
xor_swap_r a b c = xor_assoc a b c ∙ ap (xor_w a) (xor_comm b c) ∙ sym (xor_assoc a c b)

-- regrouping: `simp xor·ring` brings both sides of an equation of XORs to one form
pub ruleset xor·ring = (xor_assoc, xor_comm, xor_swap, xor_self, xor_cancel, xor_zero, xor_zero_l)

-- XOR with all ones takes each bit from one: NOT
pub not_xor : (a : ℕ) → a < 2 ^ 64 → not_w a ≡ xor_w a (2 ^ 64 - 1)
unfolding not_w xor_w
not_xor a h =
    let m : Bits.bit_and a (2 ^ 64 - 1) ≡ a = Bits.and_mask a 64 ∙ mod-eq_of_lt h in
    omega (arith, Bits.xor_add_and a (2 ^ 64 - 1))
