-- The sum's plan, the first shift of w = q · 2^9 by the lowest bit of the distance, and one added to D in the places beside it: one AND of three fields.
-- What D and w are then, in numbers. Rests on Compare, Order and Fields.
use mathlib.Core.Path.{◌≡◌, refl, sym, ap, ap₂, ◌∙◌}
use Prim.Native.Nat.{ℕ, ◌+◌, ◌-◌, ◌*◌, ◌/◌, ◌%◌, ◌^◌, ◌≤◌, ◌<◌}
use native.Mathlib.Nat.{add-mod, add_comm, zero-mul, one-mul, div-one, mod-eq_of_lt}
use native.Mathlib.Omega.{arith}
use lib.Bits as Bits
use lib.Pow as Pow
use lib.Pow.{ones_lt}
use Rattle.bits.specs.Ops.{xor_w, and_w, not_w, shl_w, shr_w, spread_w}
use Rattle.bits.proofs.Digits.{digit, bit_lt}
use Rattle.bits.proofs.Xor.{xor_comm, xor_assoc, xor_zero, xor_cancel, and_zero, xor·ring}
use Rattle.bits.proofs.Bound.{xor_lt}
use Rattle.bits.proofs.Sum.{xor_packed}
use Rattle.bits.proofs.Parity.{xor_shifted}
use Rattle.bits.proofs.Places.{shr_is, shl_exact, and_low}
use Rattle.binary64.specs.Number.{expo}
use Rattle.plans.proofs.Fields.{field, low_bits, spread_run, spread_run_at, bit_mul_lt, pack}
use Rattle.plans.proofs.Shifts.{not_is, shl_keeps, changes, and_fields}
use Rattle.plans.proofs.sum.Run.{compare_w, first_w, near_w, exact_and, exact_d, exact_w}
use Rattle.plans.proofs.sum.Compare.{opposed, compared}
use Rattle.plans.proofs.sum.Order.{first_yes, first_no, near_yes, near_no, sum_no}

-- AND with s ones, or with none
pub and_run : (s v y : ℕ) → v < 2 ^ s → and_w v (y % 2 * (2 ^ s - 1)) ≡ y % 2 * v
and_run s v y h =
    digit (λ b. and_w v (b * (2 ^ s - 1)) ≡ b * v)
    (ap (and_w v) (zero-mul (2 ^ s - 1)) ∙ and_zero v ∙ sym (zero-mul v))
    (ap (and_w v) (one-mul (2 ^ s - 1)) ∙ and_low v s ∙ mod-eq_of_lt h ∙ sym (one-mul v))
    (y % 2) (bit_lt y)

-- ---- three fields: 8 bits, 54 and 2
abbrev fields : ℕ → ℕ → ℕ → ℕ
fields h m l = (h * 2 ^ 54 + m) * 2 ^ 8 + l

packed : (h m l : ℕ) → m < 2 ^ 54 → l < 2 ^ 8 → xor_w (h * 2 ^ 62) (xor_w (m * 2 ^ 8) l) ≡ fields h m l
packed h m l hm hl =
    ap (xor_w (h * 2 ^ 62)) (xor_packed m 8 l hl) ∙ xor_packed h 62 (m * 2 ^ 8 + l) (omega arith) ∙ omega arith

-- ---- the AND, with N's run, the mask of y and w = q · 2^9
abbrev raise : ℕ → ℕ
raise N = not_w (shr_w N 48)

module _ (N y xy q : ℕ) (hq : q < 2 ^ 53) where
  -- w ^ w / 2, without its 8 low bits
  M : ℕ
  M = xor_w q (q * 2)

  M_lt : M < 2 ^ 54
  unfolding M
  M_lt = xor_lt 54 q (q * 2) (omega arith) (omega arith)

  M_is : xor_w (shr_w (q * 2 ^ 9) 1) (q * 2 ^ 9) ≡ M * 2 ^ 8
  unfolding M
  M_is = changes 1 8 q

  low : ℕ
  low = raise N % 2 ^ 8

  high : ℕ
  high = shr_w (raise N) 8 % 2 ^ 2

  p : ℕ
  p = shr_w xy 52

  left : xor_w (xor_w (shr_w (shl_w (raise N) 56) 56) (shl_w (shr_w (raise N) 8) 62)) (xor_w (shr_w (q * 2 ^ 9) 1) (q * 2 ^ 9)) ≡ fields high M low
  unfolding low high
  left =
      ap₂ xor_w (ap₂ xor_w (low_bits (raise N) 56 8 refl) (shl_keeps 2 62 (shr_w (raise N) 8) refl)) M_is
      ∙ regroup (raise N % 2 ^ 8) (high * 2 ^ 62) (M * 2 ^ 8) ∙ packed high M (raise N % 2 ^ 8) M_lt (omega arith)
    where
      regroup : (a b c : ℕ) → xor_w (xor_w a b) c ≡ xor_w b (xor_w c a)
      regroup a b c = simp xor·ring

  right : xor_w (xor_w (shl_w (shr_w (spread_w p) 10) 8) (shr_w (spread_w y) 56)) (shl_w (shr_w (spread_w y) 62) 62)
      ≡ fields (y % 2 * (2 ^ 2 - 1)) (p % 2 * (2 ^ 54 - 1)) (y % 2 * (2 ^ 8 - 1))
  right =
      ap₂ xor_w (ap₂ xor_w (spread_run_at p 10 54 8 refl (omega arith)) (spread_run y 56 8 refl)) (spread_run_at y 62 2 62 refl (omega arith))
      ∙ xor_comm _ _ ∙ packed (y % 2 * (2 ^ 2 - 1)) (p % 2 * (2 ^ 54 - 1)) (y % 2 * (2 ^ 8 - 1)) (bit_mul_lt p (2 ^ 54 - 1) 54 (ones_lt 54)) (omega arith)

  and_is : exact_and N (spread_w y) xy (q * 2 ^ 9) ≡ fields (y % 2 * high) (p % 2 * M) (y % 2 * low)
  unfolding exact_and p low high
  and_is =
      ap₂ and_w left right
      ∙ and_fields 54 8 high M low (y % 2 * (2 ^ 2 - 1)) (p % 2 * (2 ^ 54 - 1)) (y % 2 * (2 ^ 8 - 1)) M_lt (bit_mul_lt p (2 ^ 54 - 1) 54 (ones_lt 54)) (omega arith) (omega arith)
      ∙ ap₂ (λ (a b : ℕ). fields a b (and_w low (y % 2 * (2 ^ 8 - 1)))) (and_run 2 high y (omega arith)) (and_run 54 M p M_lt)
      ∙ ap (λ (a : ℕ). fields (y % 2 * high) (p % 2 * M) a) (and_run 8 low y (omega arith))

  t : ℕ
  t = exact_and N (spread_w y) xy (q * 2 ^ 9)

  -- the three fields
  mid_lt : p % 2 * M < 2 ^ 54
  mid_lt = bit_mul_lt p M 54 M_lt

  low_lt : y % 2 * low < 2 ^ 8
  unfolding low
  low_lt = bit_mul_lt y low 8 (omega arith)

  high_lt : y % 2 * high < 2 ^ 2
  unfolding high
  high_lt = bit_mul_lt y high 2 (omega arith)

  t_low : shr_w (shl_w t 56) 56 ≡ y % 2 * low
  unfolding t
  t_low = low_bits t 56 8 refl ∙ ap (λ (u : ℕ). u % 2 ^ 8) and_is ∙ only (y % 2 * high) (p % 2 * M) (y % 2 * low) low_lt
    where
      only : (h m l : ℕ) → l < 2 ^ 8 → fields h m l % 2 ^ 8 ≡ l
      only h m l hl = omega arith

  t_high : shr_w t 62 ≡ y % 2 * high
  unfolding t
  t_high = shr_is t 62 ∙ ap (λ (u : ℕ). u / 2 ^ 62) and_is ∙ only (y % 2 * high) (p % 2 * M) (y % 2 * low) mid_lt low_lt
    where
      only : (h m l : ℕ) → m < 2 ^ 54 → l < 2 ^ 8 → fields h m l / 2 ^ 62 ≡ h
      only h m l hm hl = omega arith

  t_mid : shr_w (shl_w t 2) 10 ≡ p % 2 * M
  unfolding t
  t_mid = field t 2 8 54 refl ∙ ap (λ (u : ℕ). u / 2 ^ 8 % 2 ^ 54) and_is ∙ only (y % 2 * high) (p % 2 * M) (y % 2 * low) mid_lt low_lt
    where
      only : (h m l : ℕ) → m < 2 ^ 54 → l < 2 ^ 8 → fields h m l / 2 ^ 8 % 2 ^ 54 ≡ m
      only h m l hm hl = omega arith

  ten_bits : raise N % 2 ^ 10 ≡ high * 2 ^ 8 + low
  unfolding low high
  ten_bits = split (raise N) ∙ ap (λ (u : ℕ). u % 2 ^ 2 * 2 ^ 8 + raise N % 2 ^ 8) (sym (shr_is (raise N) 8))
    where
      split : (r : ℕ) → r % 2 ^ 10 ≡ r / 2 ^ 8 % 2 ^ 2 * 2 ^ 8 + r % 2 ^ 8
      split r = omega arith

  -- ten bits and a one below them, where y is odd
  D_is : (D : ℕ) → exact_d D (spread_w y) (exact_and N (spread_w y) xy (q * 2 ^ 9)) ≡ xor_w D (y % 2 * (raise N % 2 ^ 10 * 2 + 1))
  unfolding exact_d t
  D_is D =
      let X : ℕ = y % 2 * high * 2 ^ 8 + y % 2 * low in
      let hl : y % 2 * low < 2 ^ 8 = low_lt in
      let hh : y % 2 * high < 2 ^ 2 = high_lt in
      let e : xor_w (shr_w (shl_w t 56) 56) (shl_w (shr_w t 62) 8) ≡ X = ap₂ (λ (a b : ℕ). xor_w a (shl_w b 8)) t_low t_high ∙ pack 2 8 (y % 2 * low) (y % 2 * high) hl hh (omega arith) in
      ap₂ (λ (a b : ℕ). xor_w (xor_w D a) b) (ap (λ (a : ℕ). shl_w a 1) e ∙ shl_exact 10 1 X (omega arith) (omega arith)) (spread_run y 63 1 refl)
      ∙ xor_assoc D (X * 2 ^ 1) (y % 2 * (2 ^ 1 - 1)) ∙ ap (xor_w D) (xor_packed X 1 (y % 2 * (2 ^ 1 - 1)) (bit_mul_lt y 1 1 (omega arith)) ∙ gather)
    where
      gather : (y % 2 * high * 2 ^ 8 + y % 2 * low) * 2 ^ 1 + y % 2 * (2 ^ 1 - 1) ≡ y % 2 * (raise N % 2 ^ 10 * 2 + 1)
      gather = digit (λ b. (b * high * 2 ^ 8 + b * low) * 2 ^ 1 + b * (2 ^ 1 - 1) ≡ b * (raise N % 2 ^ 10 * 2 + 1)) (omega arith) (let e = ten_bits in omega arith) (y % 2) (bit_lt y)

  W_is : exact_w (q * 2 ^ 9) (exact_and N (spread_w y) xy (q * 2 ^ 9)) ≡ q * 2 ^ 9 / 2 ^ (shr_w xy 52 % 2)
  unfolding exact_w t p
  W_is =
      ap (λ (u : ℕ). xor_w (q * 2 ^ 9) (shl_w u 8)) t_mid ∙ ap (xor_w (q * 2 ^ 9)) (shl_exact 54 8 (p % 2 * M) mid_lt (omega arith))
      ∙ digit (λ b. xor_w (q * 2 ^ 9) (b * M * 2 ^ 8) ≡ q * 2 ^ 9 / 2 ^ b)
      (ap (xor_w (q * 2 ^ 9)) (none M) ∙ xor_zero (q * 2 ^ 9) ∙ sym (div-one (q * 2 ^ 9)))
      (ap (xor_w (q * 2 ^ 9)) (one M ∙ sym M_is ∙ xor_comm (shr_w (q * 2 ^ 9) 1) (q * 2 ^ 9)) ∙ xor_cancel (q * 2 ^ 9) (shr_w (q * 2 ^ 9) 1) ∙ shr_is (q * 2 ^ 9) 1)
      (p % 2) (bit_lt p)
    where
      none : (m : ℕ) → 0 * m * 2 ^ 8 ≡ 0
      none m = omega arith

      one : (m : ℕ) → 1 * m * 2 ^ 8 ≡ m * 2 ^ 8
      one m = omega arith

-- ---- the distance of the exponents, exactly
-- the run adds one, in 11 bits
raised : (S n : ℕ) → S < 2 ^ 11 - 1 → n < 2 ^ 16 → xor_w S ((2 ^ 16 - 1) - n * 2 % 2 ^ 16) ≡ S + 1 → xor_w S (((2 ^ 64 - 1) - n) % 2 ^ 10 * 2 + 1) ≡ S + 1
unfolding xor_w
raised S n h hn e =
    ap₂ xor_w (sym (mod-eq_of_lt (let l : S < 2 ^ 11 = omega arith in l))) (low n hn) ∙ sym (Bits.xor_mod S ((2 ^ 16 - 1) - n * 2 % 2 ^ 16) 11)
    ∙ ap (λ (u : ℕ). u % 2 ^ 11) e ∙ mod-eq_of_lt (omega arith)
  where
    low : (n : ℕ) → n < 2 ^ 16 → ((2 ^ 64 - 1) - n) % 2 ^ 10 * 2 + 1 ≡ ((2 ^ 16 - 1) - n * 2 % 2 ^ 16) % 2 ^ 11
    low n hn = omega arith

-- a sum is odd where the difference is
apart : (a b : ℕ) → b ≤ a → (a + b) % 2 ≡ (a - b) % 2
apart a b h = omega arith

module _ (x y q : ℕ) (hq : q < 2 ^ 53) where
  abbrev N : ℕ
  N = (compare_w x y).words.N

  abbrev m : ℕ
  m = not_w (first_w (compare_w x y).words)

  abbrev first : ℕ
  first = exact_and N m (xor_w x y) (q * 2 ^ 9)

  parity : shr_w (xor_w x y) 52 % 2 ≡ (expo x + expo y) % 2
  parity = xor_shifted x y 52 ∙ ap₂ (λ (u v : ℕ). (u + v) % 2) (low (x / 2 ^ 52)) (low (y / 2 ^ 52)) ∙ sym (add-mod (expo x) (expo y) 2)
    where
      low : (e : ℕ) → e % 2 ≡ e % 2048 % 2
      low e = omega arith

  module _ (le : expo y ≤ expo x) where
    m_yes : m ≡ spread_w 0
    unfolding not_w spread_w
    m_yes = ap not_w (first_yes x y le)

    pub D_yes : exact_d (near_w x y (compare_w x y).words) m first ≡ expo x - expo y
    D_yes =
        ap₂ (λ (D u : ℕ). exact_d D u (exact_and N u (xor_w x y) (q * 2 ^ 9))) (near_yes x y le) m_yes
        ∙ D_is N 0 (xor_w x y) q hq (expo x - expo y)
        ∙ ap (xor_w (expo x - expo y)) (zero-mul (raise N % 2 ^ 10 * 2 + 1)) ∙ xor_zero (expo x - expo y)

    pub W_yes : exact_w (q * 2 ^ 9) first ≡ q * 2 ^ 9 / 2 ^ ((expo x - expo y) % 2)
    W_yes =
        ap (λ (u : ℕ). exact_w (q * 2 ^ 9) (exact_and N u (xor_w x y) (q * 2 ^ 9))) m_yes ∙ W_is N 0 (xor_w x y) q hq
        ∙ ap (λ (u : ℕ). q * 2 ^ 9 / 2 ^ u) (parity ∙ apart (expo x) (expo y) le)

  module _ (lt : expo x < expo y) where
    m_no : m ≡ spread_w 1
    unfolding not_w spread_w
    m_no = ap not_w (first_no x y lt)

    one_more : xor_w (expo y - expo x - 1) (raise N % 2 ^ 10 * 2 + 1) ≡ expo y - expo x
    one_more =
        let n : ℕ = N / 2 ^ 48 in
        let c = compared x y in
        let S : ℕ = expo y - expo x - 1 in
        let up : (expo y + opposed x + 1) % 2 ^ 16 ≡ S + 1 = omega arith in
        let e : xor_w S ((2 ^ 16 - 1) - n * 2 % 2 ^ 16) ≡ S + 1 = ap (λ (u : ℕ). xor_w u ((2 ^ 16 - 1) - n * 2 % 2 ^ 16)) (sym (sum_no x y lt)) ∙ c.plus_one ∙ up in
        ap (λ (u : ℕ). xor_w S (u % 2 ^ 10 * 2 + 1)) (not_is (shr_w N 48) ∙ ap (λ (u : ℕ). (2 ^ 64 - 1) - u) (shr_is N 48))
        ∙ raised S n (omega arith) (Pow.shr_lt 16 48 c.n_lt) e ∙ omega arith

    pub D_no : exact_d (near_w x y (compare_w x y).words) m first ≡ expo y - expo x
    D_no =
        ap₂ (λ (D u : ℕ). exact_d D u (exact_and N u (xor_w x y) (q * 2 ^ 9))) (near_no x y lt) m_no
        ∙ D_is N 1 (xor_w x y) q hq (expo y - expo x - 1)
        ∙ ap (xor_w (expo y - expo x - 1)) (one-mul (raise N % 2 ^ 10 * 2 + 1)) ∙ one_more

    pub W_no : exact_w (q * 2 ^ 9) first ≡ q * 2 ^ 9 / 2 ^ ((expo y - expo x) % 2)
    W_no =
        ap (λ (u : ℕ). exact_w (q * 2 ^ 9) (exact_and N u (xor_w x y) (q * 2 ^ 9))) m_no ∙ W_is N 1 (xor_w x y) q hq
        ∙ ap (λ (u : ℕ). q * 2 ^ 9 / 2 ^ u) (parity ∙ ap (λ (u : ℕ). u % 2) (add_comm (expo x) (expo y)) ∙ apart (expo y) (expo x) (omega arith))
