-- Bounds: of a share count, and on the counts per kind, where a share count below 256 keeps squares and pairs small.
use Prim.Native.Nat.{ℕ, ◌-◌, ◌*◌, ◌/◌, ◌≤◌, ◌<◌}
use native.Mathlib.Nat.{mul-le-mul_left}
use mathlib.Core.Path.{◌≡◌, refl}
use mathlib.Core.Bool.{Bool, true, false, not, cond, ◌&&◌}
use native.Mathlib.Omega.{arith}
use lib.Dec.{eqb, leb}
use borrow.Author.Tests.{leb-true, not-false}
use Rattle.word.specs.Layout.{is_share_count, and_length, add_length, length_of, tape_of, word_max}

pub square_lt : (n : ℕ) → n < 256 → n * n < 65536
square_lt n h =
    let l : n ≤ 255 = omega arith in
    let a : n * n ≤ n * 255 = mul-le-mul_left n l in
    omega arith

pub pairs_lt : (n : ℕ) → n < 256 → n * (n - 1) < 65536
pairs_lt n h =
    let a : n * (n - 1) ≤ n * 255 = mul-le-mul_left n (omega arith) in
    omega arith

-- a share count lies in 2..8
pub share_range : (n : ℕ) → is_share_count n ≡ true → (2 ≤ n) × (n ≤ 8)
share_range n e =
    let b = both (leb 2 n) (leb n 8) e in
    (leb-true 2 n b.0, leb-true n 8 b.1)
  where
    both : (p q : Bool) → (p && q) ≡ true → (p ≡ true) × (q ≡ true)
    both true q h = (refl, h)
    both false q h = let z : ◌≡◌ {A = ℕ} 0 1 = cc in absurd (omega arith)

pub in_range : (n : ℕ) → not (is_share_count n) ≡ false → (2 ≤ n) × (n ≤ 8)
in_range n e = share_range n (not-false (is_share_count n) e)

module _ (n : ℕ) (most : n ≤ 8) where
  -- no plan word gives more than ADD's share words and tape words for eight shares
  pub length_le : (k : ℕ) → length_of k n ≤ word_max
  unfolding length_of
  length_le k = by (eqb k 3) (eqb k 8) (mul-le-mul_left n most)
    where
      by : (p q : Bool) → n * n ≤ n * 8 → cond p (and_length n) (cond q (add_length n) n) ≤ word_max
      by true q h = omega arith
      by false true h = omega arith
      by false false h = omega arith

  pub tape_le : (k : ℕ) → tape_of k n ≤ 768
  unfolding tape_of
  tape_le k = by (eqb k 3) (eqb k 8) (n * (n - 1)) (mul-le-mul_left n (omega arith))
    where
      by : (p q : Bool) (m : ℕ) → m ≤ n * 8 → cond p (2 * (m / 2)) (cond q (24 * (m / 2)) 0) ≤ 768
      by true q m h = omega arith
      by false true m h = omega arith
      by false false m h = omega arith
