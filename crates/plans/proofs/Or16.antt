-- A word brought to 16 bits that are 0 only where the word was: NOT, AND with itself shifted right by 32 and by 16, NOT, and the 16 low bits.
-- Rests on bits' Bound and Places, and on Fields.
use mathlib.Core.Path.{◌≡◌, refl, sym, ap, ap₂, ◌∙◌, subst}
use mathlib.Core.Logic.{inl, inr}
use Prim.Native.Nat.{ℕ, zero, suc, ◌+◌, ◌-◌, ◌*◌, ◌/◌, ◌%◌, ◌^◌, ◌<◌}
use native.Mathlib.Nat.{mod-lt, mod-eq_of_lt, le_trans, le_of_eq, eq-or-lt_of_le, le_antisymm}
use native.Mathlib.Omega.{arith}
use lib.Bits as Bits
use lib.Pow.{pow_pos, split, mod-pow-add, ones_split, le_ones}
use Rattle.bits.specs.Ops.{and_w, not_w, shl_w, shr_w}
use Rattle.bits.proofs.Xor.{and_comm, and_zero}
use Rattle.bits.proofs.Bound.{and_le, and_lt, not_lt}
use Rattle.bits.proofs.Places.{shr_is, and_block}
use Rattle.plans.proofs.Lanes.{is_zero, and_down}
use Rattle.plans.proofs.Fields.{low_bits}
use Rattle.plans.proofs.Shifts.{not_is}

unfoldable pub or16 : ℕ → ℕ
or16 w = shr_w (shl_w (not_w (and_down 16 (and_down 32 (not_w w)))) 48) 48

-- only 32 places are left after the first of the ANDs
pub down32 : (n : ℕ) → n < 2 ^ 64 → and_down 32 n ≡ and_w (n % 2 ^ 32) (n / 2 ^ 32)
down32 n h =
    let hi : ℕ = n / 2 ^ 32 in
    let lo : ℕ = n % 2 ^ 32 in
    let e : hi ≡ 0 * 2 ^ 32 + hi = omega arith in
    ap₂ and_w (sym (split n 32)) (shr_is n 32 ∙ e) ∙ and_block 32 hi 0 lo hi (mod-lt n (pow_pos 32)) (omega arith)
    ∙ ap (λ (z : ℕ). z * 2 ^ 32 + and_w lo hi) (and_zero hi) ∙ omega arith

pub down32_lt : (n : ℕ) → n < 2 ^ 64 → and_down 32 n < 2 ^ 32
down32_lt n h = subst (λ (z : ℕ). z < 2 ^ 32) (sym (down32 n h)) (and_lt 32 (n % 2 ^ 32) (n / 2 ^ 32) (mod-lt n (pow_pos 32)))

-- m ones after AND with the m bits above: they were ones too
full_and : (m n : ℕ) → and_down m n % 2 ^ m ≡ 2 ^ m - 1 → n % 2 ^ (m + m) ≡ 2 ^ (m + m) - 1
full_and m n h =
    let lo : ℕ = n % 2 ^ m in
    let hi : ℕ = n / 2 ^ m % 2 ^ m in
    let both : and_w lo hi ≡ 2 ^ m - 1 = sym parts ∙ h in
    let l : lo ≡ 2 ^ m - 1 = le_antisymm (le_ones m (mod-lt n (pow_pos m))) (le_trans (le_of_eq (sym both)) (and_le lo hi)) in
    let k : hi ≡ 2 ^ m - 1 = le_antisymm (le_ones m (mod-lt (n / 2 ^ m) (pow_pos m))) (le_trans (le_of_eq (sym both ∙ and_comm lo hi)) (and_le hi lo)) in
    mod-pow-add n m m ∙ ap₂ (λ (u v : ℕ). u * 2 ^ m + v) k l ∙ sym (ones_split m m)
  where
    parts : and_down m n % 2 ^ m ≡ and_w (n % 2 ^ m) (n / 2 ^ m % 2 ^ m)
    parts = unfold and_w shr_w in Bits.and_mod n (n / 2 ^ m) m

module _ (w : ℕ) where
  unfoldable pub gathered : ℕ
  gathered = and_down 16 (and_down 32 (not_w w))

  gathered_lt : gathered < 2 ^ 64
  unfolding gathered
  gathered_lt = and_lt 64 (and_down 32 (not_w w)) (shr_w (and_down 32 (not_w w)) 16) (and_lt 64 (not_w w) (shr_w (not_w w) 32) (not_lt w))

  pub or16_is : or16 w ≡ 2 ^ 16 - 1 - gathered % 2 ^ 16
  unfolding or16 gathered
  or16_is =
      let h = gathered_lt in
      low_bits (not_w gathered) 48 16 refl ∙ ap (λ (u : ℕ). u % 2 ^ 16) (not_is gathered) ∙ omega arith

  pub or16_lt : or16 w < 2 ^ 16
  or16_lt = subst (λ (u : ℕ). u < 2 ^ 16) (sym or16_is) (omega arith)

  all_zero : w < 2 ^ 64 → gathered % 2 ^ 16 ≡ 2 ^ 16 - 1 → w ≡ 0
  unfolding gathered
  all_zero h e =
      let f : not_w w % 2 ^ 64 ≡ 2 ^ 64 - 1 = full_and 32 (not_w w) (full_and 16 (and_down 32 (not_w w)) e) in
      let g : not_w w ≡ 2 ^ 64 - 1 = sym (mod-eq_of_lt (not_lt w)) ∙ f in
      omega (arith, not_is w)

pub or16_zero : (w : ℕ) → w < 2 ^ 64 → is_zero (or16 w) ≡ is_zero w
or16_zero zero h = unfold or16 and_w not_w shr_w shl_w in refl
or16_zero (suc w) h =
    elim (eq-or-lt_of_le (le_ones 16 (mod-lt (gathered (suc w)) (pow_pos 16)))) [
      | inl e ↦ let z = all_zero (suc w) h e in absurd (omega arith)
      | inr l ↦ ap is_zero (or16_is (suc w)) ∙ omega arith
    ]
