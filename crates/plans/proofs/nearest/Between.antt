-- Nearest's plan where the decoder leaves a place, that of the first bit dropped: 1023 ≤ E ≤ 1074. Rests on Parts and RoundUp.
use mathlib.Core.Path.{◌≡◌, refl, sym, ap, ap₂, ◌∙◌}
use Prim.Native.Nat.{ℕ, suc, ◌+◌, ◌-◌, ◌*◌, ◌/◌, ◌%◌, ◌^◌, ◌≤◌, ◌<◌, min}
use native.Mathlib.Nat.{pow-suc, mod-lt, mod-eq_of_lt}
use native.Mathlib.Numerals.{one-add}
use native.Mathlib.Omega.{arith}
use lib.Pow.{pow_pos, pow_mono, pow-lt, mod-pow-add}
use Rattle.bits.specs.Ops.{xor_w, and_w, shl_w}
use Rattle.bits.proofs.Digits.{digit, bit_lt}
use Rattle.bits.proofs.Xor.{xor_zero, xor_comm, xor_cancel, and_comm}
use Rattle.bits.proofs.Places.{and_low, shl_exact}
use Rattle.bits.proofs.Sum.{xor_packed}
use Rattle.binary64.specs.Number.{expo}
use Rattle.plans.proofs.Fields.{low_bits, low_lt, bit_mul_lt}
use Rattle.plans.proofs.RoundUp.{rounded_up, next_above}
use Rattle.plans.proofs.decoder.Decoded.{fold}
use Rattle.plans.proofs.nearest.Parts.{bits_of, first_of, others_of, rounded_to, one_bit, fold_bit}

module _ (x j : ℕ) (hx : x < 2 ^ 64) (hj : j ≤ 51) where
  abbrev W : ℕ
  W = 2 ^ suc j - 1

  abbrev r : ℕ
  r = x / 2 ^ j % 2

  abbrev l : ℕ
  l = x / 2 ^ suc j % 2

  dropped_are : bits_of x W 0 ≡ x % 2 ^ suc j
  dropped_are = ap (and_w x) (xor_zero W) ∙ and_low x (suc j)

  first_place : first_of x (2 ^ j) 0 ≡ r * W
  unfolding first_of
  first_place = xor_zero (fold (and_w x (2 ^ j))) ∙ ap fold (one_bit x j) ∙ fold_bit r j (bit_lt (x / 2 ^ j)) (omega arith)

  others : others_of x (2 ^ j) (x % 2 ^ suc j) ≡ l * 2 ^ suc j + x % 2 ^ j
  unfolding others_of
  others =
      ap₂ xor_w
      (ap₂ xor_w (low_bits (x % 2 ^ suc j) 12 52 refl ∙ mod-eq_of_lt (low_lt x (suc j) 52 (omega arith)) ∙ in_two) (one_bit x j) ∙ rest)
      (ap (λ (v : ℕ). and_w v x) next ∙ and_comm (2 ^ suc j) x ∙ one_bit x (suc j))
      ∙ xor_comm (x % 2 ^ j) (l * 2 ^ suc j) ∙ xor_packed l (suc j) (x % 2 ^ j) (low_lt x j (suc j) (omega arith))
    where
      in_two : x % 2 ^ suc j ≡ r * 2 ^ j + x % 2 ^ j
      in_two = ap (λ (k : ℕ). x % 2 ^ k) (sym (one-add j)) ∙ mod-pow-add x 1 j

      rest : xor_w (r * 2 ^ j + x % 2 ^ j) (r * 2 ^ j) ≡ x % 2 ^ j
      rest =
          ap (λ (v : ℕ). xor_w v (r * 2 ^ j)) (sym (xor_packed r j (x % 2 ^ j) (mod-lt x (pow_pos j))))
          ∙ xor_comm (xor_w (r * 2 ^ j) (x % 2 ^ j)) (r * 2 ^ j) ∙ xor_cancel (r * 2 ^ j) (x % 2 ^ j)

      next : shl_w (2 ^ j) 1 ≡ 2 ^ suc j
      next = shl_exact (suc j) 1 (2 ^ j) (pow-lt (omega arith)) (omega arith) ∙ sym (pow-suc 2 j)

  pub between : expo x + suc j ≡ 1075 → rounded_to x (2 ^ j) W 0 0 ≡ (x / 2 ^ suc j + r * min (l + x % 2 ^ j) 1) * 2 ^ suc j
  unfolding rounded_to
  between e =
      let K : ℕ = 2 ^ suc j in
      let s : ℕ = x % 2 ^ j in
      let k52 : 2 ^ suc j ≤ 2 ^ 52 = pow_mono {i = suc j} {j = 52} (omega arith) in
      let sl : s < K = low_lt x j (suc j) (omega arith) in
      let odd : r * W % 2 ≡ r = lowest_of r W (2 ^ j) (bit_lt (x / 2 ^ j)) (omega arith) (pow_pos j) in
      ap (λ (f : ℕ). rounded_up x W f 0 (others_of x (2 ^ j) f) (first_of x (2 ^ j) 0)) dropped_are
      ∙ ap₂ (rounded_up x W (x % K) 0) others first_place
      ∙ next_above x (suc j) (l * K + s) (r * W) hx (omega arith) (omega arith) (small l K s (bit_lt (x / K)) k52 sl) (bit_mul_lt (x / 2 ^ j) W 64 (omega arith))
      ∙ ap₂ (λ (b m : ℕ). (x / K + b * m) * K) odd (either l K s (bit_lt (x / K)) (pow_pos (suc j)))
    where
      small : (t K s : ℕ) → t < 2 → K ≤ 2 ^ 52 → s < K → t * K + s < 2 ^ 63
      small t K s ht hk hs = digit (λ t. t * K + s < 2 ^ 63) (omega arith) (omega arith) t ht

      lowest_of : (t w p : ℕ) → t < 2 → w ≡ 2 * p - 1 → 0 < p → t * w % 2 ≡ t
      lowest_of t w p ht e h = digit (λ t. t * w % 2 ≡ t) (omega arith) (omega arith) t ht

      either : (t K s : ℕ) → t < 2 → 0 < K → min (t * K + s) 1 ≡ min (t + s) 1
      either t K s ht p = digit (λ t. min (t * K + s) 1 ≡ min (t + s) 1) (omega arith) (omega arith) t ht
