-- The steps of nearest's plan after the decoder, as functions of what the decoder leaves; and what is the same in every range of E: one place folded is the mask up
-- to it. Rests on RoundUp, on the decoder's fold, and on the laws of words.
use mathlib.Core.Path.{◌≡◌, refl, sym, ap, ap₂, ◌∙◌}
use Prim.Native.Nat.{ℕ, suc, ◌+◌, ◌-◌, ◌*◌, ◌/◌, ◌%◌, ◌^◌, ◌<◌}
use native.Mathlib.Nat.{mod-lt, zero-mul, one-mul, div-add-mod'}
use native.Mathlib.Omega.{arith}
use lib.Dec.{T, eqb, eqb→eq}
use lib.Pow.{pow_pos}
use Rattle.bits.specs.Ops.{xor_w, and_w, shl_w, shr_w}
use Rattle.bits.proofs.Digits.{digit, bit}
use Rattle.bits.proofs.Xor.{and_zero}
use Rattle.bits.proofs.Places.{and_low, and_block}
use Rattle.plans.proofs.Tests.{every, each}
use Rattle.plans.proofs.RoundUp.{rounded_up}
use Rattle.plans.proofs.decoder.Decoded.{fold}

-- ---- the steps after the decoder: p the place, W and U the masks, h whether E = 1022
-- the bits dropped
abbrev pub bits_of : ℕ → ℕ → ℕ → ℕ
bits_of x W U = and_w x (xor_w W U)

-- the first bit dropped, in place 0
unfoldable pub first_of : ℕ → ℕ → ℕ → ℕ
first_of x p h = xor_w (fold (and_w x p)) h

-- what decides with it: the other bits dropped and the last bit kept
unfoldable pub others_of : ℕ → ℕ → ℕ → ℕ
others_of x p f = xor_w (xor_w (shr_w (shl_w f 12) 12) (and_w x p)) (and_w (shl_w p 1) x)

unfoldable pub rounded_to : ℕ → ℕ → ℕ → ℕ → ℕ → ℕ
rounded_to x p W U h = let f : ℕ = bits_of x W U in rounded_up x W f h (others_of x p f) (first_of x p h)

-- ---- parts of a word
-- the bit at place j alone
pub one_bit : (x j : ℕ) → and_w x (2 ^ j) ≡ bit x j * 2 ^ j
one_bit x j =
    let w : x / 2 ^ j * 2 ^ j + x % 2 ^ j ≡ x = div-add-mod' x (2 ^ j) in
    let o : 1 * 2 ^ j + 0 ≡ 2 ^ j = omega arith in
    ap₂ and_w (sym w) (sym o) ∙ and_block j (x / 2 ^ j) 1 (x % 2 ^ j) 0 (mod-lt x (pow_pos j)) (pow_pos j)
    ∙ ap₂ (λ (a b : ℕ). a * 2 ^ j + b) (and_low (x / 2 ^ j) 1) (and_zero (x % 2 ^ j)) ∙ omega arith

-- one place folded is the mask up to it
fold_tested : T (every 64 (λ j. eqb (fold (2 ^ j)) (2 ^ suc j - 1)))
unfolding xor_w shr_w fold
fold_tested = tt

pub fold_none : fold 0 ≡ 0
unfolding xor_w shr_w fold
fold_none = refl

pub fold_bit : (b j : ℕ) → b < 2 → j < 64 → fold (b * 2 ^ j) ≡ b * (2 ^ suc j - 1)
fold_bit b j hb hj =
    digit (λ b. fold (b * 2 ^ j) ≡ b * (2 ^ suc j - 1))
    (ap fold (zero-mul (2 ^ j)) ∙ fold_none ∙ sym (zero-mul (2 ^ suc j - 1)))
    (ap fold (one-mul (2 ^ j)) ∙ eqb→eq _ _ (each 64 (λ j. eqb (fold (2 ^ j)) (2 ^ suc j - 1)) fold_tested j hj) ∙ sym (one-mul (2 ^ suc j - 1)))
    b hb
