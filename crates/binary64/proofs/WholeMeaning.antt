-- Truncation and nearest are the whole numbers that they are said to be: the theorems of specs/Meaning on them. Both, and floor (FloorMeaning), go by a rule that chooses a whole
-- number for a fraction, and what holds of every such rule is proved once. Rests on Meaning, and knows nothing of a word's bits but what magnitudes say.
use mathlib.Core.Path.{◌≡◌, refl, sym, ap, ap₂, ◌∙◌}
use mathlib.Core.Logic.{inl, inr}
use mathlib.Core.Bool.{Bool, false, cond}
use Prim.Native.Nat.{ℕ, zero, suc, ◌+◌, ◌-◌, ◌*◌, ◌/◌, ◌^◌, ◌≤◌, ◌<◌}
use native.Mathlib.Nat.{le_trans, le_of_eq, le-suc, lt_of_lt_of_le, lt_of_le_of_lt, mul_assoc, mul-one, one-mul, mul-le-mul_right, div-add-mod', mod-lt, div-lt_iff_lt-mul, div-one}
use native.Mathlib.Omega.{arith}
use lib.Arith.{digits_div}
use lib.Dec.{leb}
use lib.Pow.{pow_pos, pow-add, pow_mono, shl_lt}
use lib.Ieee.{size}
use lib.Ieee.Digits.{size-le}
use lib.Ieee.Nearest.{closest, closest_same, div_same}
use Rattle.binary64.specs.Number.{sign, expo, frac, magnitude_of, magnitude, signed}
use Rattle.binary64.specs.Rounding.{rounded_significand, mag_bits}
use Rattle.binary64.specs.Whole.{whole_number}
use Rattle.binary64.specs.Truncate.{truncate}
use Rattle.binary64.specs.Nearest.{nearest}
use Rattle.binary64.specs.Ieee.{toward_zero, ties_to_even}
use Rattle.binary64.specs.Meaning.{distance, TruncateMeans, NearestMeans}
use Rattle.binary64.specs.inner.Steps.{round_ne}
use Rattle.binary64.proofs.Cases.{lt_or_ge, if_le, if_not_le}
use Rattle.binary64.proofs.Words.{magnitude_below}
use Rattle.binary64.proofs.Round.{bits_zero, bits_lt, round_none, closest_up}
use Rattle.binary64.proofs.Meaning.{closest_nearest, rounding_means}

-- ---- the operand's magnitude against 2^1074, by its exponent
large_multiple : (E F : ℕ) → 1075 ≤ E → (w : ℕ) × (magnitude_of E F ≡ w * 2 ^ 1074)
large_multiple zero F h = absurd (omega arith)
large_multiple (suc e) F h =
    let s : e - 1074 + 1074 ≡ e = omega arith in (
      (2 ^ 52 + F) * 2 ^ (e - 1074),
      ap (λ (x : ℕ). (2 ^ 52 + F) * x) (ap (λ (x : ℕ). 2 ^ x) (sym s) ∙ pow-add 2 (e - 1074) 1074) ∙ sym (mul_assoc (2 ^ 52 + F) (2 ^ (e - 1074)) (2 ^ 1074)),
    )

-- the whole part of a number with a fraction, or one more, has at most 53 bits
next_whole_lt : (a n : ℕ) → expo a < 1075 → n ≤ suc (magnitude a / 2 ^ 1074) → n < 2 ^ 53
next_whole_lt a n h next =
    let w : magnitude a / 2 ^ 1074 < 2 ^ 52 = (div-lt_iff_lt-mul (pow_pos 1074)).1 (lt_of_lt_of_le (magnitude_below a 1075 h) (le_of_eq (pow-add 2 52 1074))) in
    lt_of_le_of_lt (le_trans next w) (omega arith)

pub floor_bounds : (m P : ℕ) → 0 < P → (m / P * P ≤ m) × (m < suc (m / P) * P)
floor_bounds m P h = let e = div-add-mod' m P in let r = mod-lt m h in (omega arith, omega arith)

-- ---- a whole number of at most 53 bits as a word
read_signed : (s m : ℕ) → m < 2 ^ 63 → magnitude (signed s m) ≡ magnitude m
unfolding magnitude
read_signed s m h =
    let E : expo (signed s m) ≡ expo m = omega arith in
    let F : frac (signed s m) ≡ frac m = omega arith in
    ap₂ magnitude_of E F

-- no multiple of 2^u but 0 is below 2^-1022, which is 2^52 units
pub multiple_ge : (n u : ℕ) → 0 < n → 52 ≤ u → 2 ^ 52 ≤ n * 2 ^ u
multiple_ge n u n0 lu = le_trans (pow_mono lu) (le_trans (le_of_eq (sym (one-mul (2 ^ u)))) (mul-le-mul_right (2 ^ u) n0))

-- n · 2^u, for an n of at most 53 bits, is a multiple of the unit that rounding leaves, and no other multiple is as near
module _ (n u : ℕ) (n0 : 0 < n) (hn : n < 2 ^ 53) (lu : 52 ≤ u) (hu : u ≤ 2045) where
  exact : rounded_significand (n * 2 ^ u) * 2 ^ (size (n * 2 ^ u) - 53) ≡ n * 2 ^ u
  exact =
      let z : size (n * 2 ^ u) ≤ 53 + u = size-le (n * 2 ^ u) (53 + u) (shl_lt 53 u hn) in
      let k = size (n * 2 ^ u) - 53 in
      let s : u - (size (n * 2 ^ u) - 53) + (size (n * 2 ^ u) - 53) ≡ u = omega arith in
      let m : n * 2 ^ (u - k) * 2 ^ k ≡ n * 2 ^ u = mul_assoc n (2 ^ (u - k)) (2 ^ k) ∙ ap (λ (x : ℕ). n * x) (sym (pow-add 2 (u - k) k) ∙ ap (λ (x : ℕ). 2 ^ x) s) in
      apart (n * 2 ^ u) (rounded_significand (n * 2 ^ u) * 2 ^ k) (n * 2 ^ (u - k) * 2 ^ k) m ((closest_nearest (n * 2 ^ u) k).nearest (n * 2 ^ (u - k)))
    where
      apart : (M q m : ℕ) → m ≡ M → distance M q ≤ distance M m → q ≡ M
      apart M q m e d = omega arith

  reads_multiple : magnitude (mag_bits 52 (n * 2 ^ u)) ≡ n * 2 ^ u
  reads_multiple =
      let top : n * 2 ^ u < 2 ^ (52 + 2046) = lt_of_lt_of_le (shl_lt 53 u hn) (pow_mono {i = 53 + u} {j = 52 + 2046} (omega arith)) in
      let r = (rounding_means 52 (n * 2 ^ u) (omega arith) (multiple_ge n u n0 lu)).reads (lt_of_le_of_lt (le_of_eq exact) top) in
      sym (mul-one (magnitude (mag_bits 52 (n * 2 ^ u)))) ∙ r.1 ∙ exact

whole_reads : (s n : ℕ) → n < 2 ^ 53 → magnitude (whole_number s n) ≡ n * 2 ^ 1074
whole_reads s n h = read_signed s (mag_bits 52 (n * 2 ^ 1074)) (bits_lt 52 (n * 2 ^ 1074) (omega arith)) ∙ go n h
  where
    go : (n : ℕ) → n < 2 ^ 53 → magnitude (mag_bits 52 (n * 2 ^ 1074)) ≡ n * 2 ^ 1074
    go zero h = ap magnitude (bits_zero 52) ∙ (unfold magnitude in refl)
    go (suc n) h = reads_multiple (suc n) 1074 (omega arith) h (omega arith) (omega arith)

whole_sign : (s n : ℕ) → sign (whole_number s n) ≡ s
whole_sign s n = digits_div s (bits_lt 52 (n * 2 ^ 1074) (omega arith))

-- ---- a rule chooses a whole number for the fraction a / b: by its value alone, a whole number for itself, and none above the next one
pub record WholeRule (rule : ℕ → ℕ → ℕ) : Type 0 where
  pub same : (a b c d : ℕ) → 0 < b → 0 < d → a * d ≡ c * b → rule a b ≡ rule c d
  pub whole : (n : ℕ) → rule n 1 ≡ n
  pub next : (a b : ℕ) → rule a b ≤ suc (a / b)

pub toward_zero_is : (s : Bool) → WholeRule (toward_zero s)
toward_zero_is s = record { same = div_same; whole = div-one; next = λ a b. le-suc (a / b) }

pub ties_to_even_is : (s : Bool) → WholeRule (ties_to_even s)
ties_to_even_is s = record { same = closest_same; whole = λ n. unfold round_ne in round_none n; next = closest_up }

-- what the roundings do: `truncate` by toward_zero, `nearest` by ties_to_even, `floor` by toward_negative (FloorMeaning)
abbrev pub rounded_by : (ℕ → ℕ → ℕ) → ℕ → ℕ
rounded_by rule a = cond (leb 1075 (expo a)) a (whole_number (sign a) (rule (magnitude a) (2 ^ 1074)))

pub rounded_large : (rule : ℕ → ℕ → ℕ) (a : ℕ) → 1075 ≤ expo a → rounded_by rule a ≡ a
rounded_large rule a h = if_le 1075 (expo a) a (whole_number (sign a) (rule (magnitude a) (2 ^ 1074))) h

pub rounded_below : (rule : ℕ → ℕ → ℕ) (a : ℕ) → expo a < 1075 → rounded_by rule a ≡ whole_number (sign a) (rule (magnitude a) (2 ^ 1074))
rounded_below rule a h = if_not_le 1075 (expo a) a (whole_number (sign a) (rule (magnitude a) (2 ^ 1074))) h

module _ (rule : ℕ → ℕ → ℕ) (R : WholeRule rule) (a : ℕ) where
  -- from E = 1075 on the operand is a whole number
  pub rule_large : 1075 ≤ expo a → rule (magnitude a) (2 ^ 1074) * 2 ^ 1074 ≡ magnitude a
  rule_large h =
      let w : (w : ℕ) × (magnitude a ≡ w * 2 ^ 1074) = unfold magnitude in large_multiple (expo a) (frac a) h in
      let r : rule (magnitude a) (2 ^ 1074) ≡ w.0 = R.same (magnitude a) (2 ^ 1074) w.0 1 (pow_pos 1074) (omega arith) (mul-one (magnitude a) ∙ w.1) ∙ R.whole w.0 in
      ap (λ (x : ℕ). x * 2 ^ 1074) r ∙ sym w.1

  pub rounded_reads : magnitude (rounded_by rule a) ≡ rule (magnitude a) (2 ^ 1074) * 2 ^ 1074
  rounded_reads =
      elim (lt_or_ge (expo a) 1075) [
        | inl l ↦
            let n : rule (magnitude a) (2 ^ 1074) < 2 ^ 53 = next_whole_lt a (rule (magnitude a) (2 ^ 1074)) l (R.next (magnitude a) (2 ^ 1074)) in
            ap magnitude (rounded_below rule a l) ∙ whole_reads (sign a) (rule (magnitude a) (2 ^ 1074)) n
        | inr h ↦ ap magnitude (rounded_large rule a h) ∙ sym (rule_large h)
      ]

  pub rounded_sign : sign (rounded_by rule a) ≡ sign a
  rounded_sign =
      elim (lt_or_ge (expo a) 1075) [
        | inl l ↦ ap (λ (x : ℕ). sign x) (rounded_below rule a l) ∙ whole_sign (sign a) (rule (magnitude a) (2 ^ 1074))
        | inr h ↦ ap (λ (x : ℕ). sign x) (rounded_large rule a h)
      ]

-- ---- the two operations
pub truncate_means : TruncateMeans
unfolding truncate
truncate_means a ha =
    let b = floor_bounds (magnitude a) (2 ^ 1074) (pow_pos 1074) in
    record {
      whole = magnitude a / 2 ^ 1074;
      reads = rounded_reads (toward_zero false) (toward_zero_is false) a;
      sign_kept = rounded_sign (toward_zero false) (toward_zero_is false) a;
      not_above = b.0;
      greatest = b.1;
    }

pub nearest_means : NearestMeans
unfolding nearest
nearest_means a ha =
    record {
      whole = closest (magnitude a) (2 ^ 1074);
      reads = rounded_reads (ties_to_even false) (ties_to_even_is false) a;
      sign_kept = rounded_sign (ties_to_even false) (ties_to_even_is false) a;
      nearest_even = closest_nearest (magnitude a) 1074;
    }
