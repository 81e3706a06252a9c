-- A carry-save row in numbers: an addend goes into a sum kept as two words, and the sum's lowest bit leaves it.
-- Rests on bits (Sum, Bound) and Shifts.
use mathlib.Core.Path.{◌≡◌, refl, sym, ap, ap₂, ◌∙◌, subst}
use Prim.Native.Nat.{ℕ, suc, ◌+◌, ◌-◌, ◌*◌, ◌/◌, ◌%◌, ◌^◌, ◌<◌, ◌≤◌}
use native.Mathlib.Nat.{mul_assoc, mul-lt-mul_of_pos_right, mul-le-mul_right, pow-suc}
use native.Mathlib.Omega.{arith}
use lib.Pow.{pow_pos, pow-add}
use Rattle.bits.specs.Ops.{xor_w, and_w, shl_w, shr_w}
use Rattle.bits.proofs.Xor.{xor_comm}
use Rattle.bits.proofs.Bound.{xor_lt, and_lt}
use Rattle.bits.proofs.Sum.{full_adder, maj_one_and, xor_packed}
use Rattle.bits.proofs.Places.{shr_is}
use Rattle.plans.proofs.Shifts.{shl_keeps}

-- the words of S + C + P: bits of the sum, and carries of twice the weight
abbrev pub sum_of3 : ℕ → ℕ → ℕ → ℕ
sum_of3 S C P = xor_w (xor_w S C) P

abbrev pub carry_of3 : ℕ → ℕ → ℕ → ℕ
carry_of3 S C P = xor_w S (and_w (xor_w S C) (xor_w S P))

-- L7
pub carry_save : (S C P : ℕ) → sum_of3 S C P + carry_of3 S C P * 2 ≡ S + C + P
carry_save S C P = ap (λ (c : ℕ). sum_of3 S C P + c * 2) (maj_one_and S C P) ∙ full_adder S C P

pub sum_lt : (w S C P : ℕ) → S < 2 ^ w → C < 2 ^ w → P < 2 ^ w → sum_of3 S C P < 2 ^ w
sum_lt w S C P hs hc hp = xor_lt w (xor_w S C) P (xor_lt w S C hs hc) hp

pub carry_lt : (w S C P : ℕ) → S < 2 ^ w → C < 2 ^ w → carry_of3 S C P < 2 ^ w
carry_lt w S C P hs hc = xor_lt w S (and_w (xor_w S C) (xor_w S P)) hs (and_lt w (xor_w S C) (xor_w S P) (xor_lt w S C hs hc))

-- what a row leaves in S and in low
abbrev pub halved : ℕ → ℕ → ℕ → ℕ
halved S C P = shr_w (sum_of3 S C P) 1

abbrev pub lowered : ℕ → ℕ → ℕ → ℕ → ℕ
lowered S C P low = xor_w (shr_w low 1) (shl_w (sum_of3 S C P) 63)

-- after n rows: S and C have the total T from place n on, and the n bits below stand at the top of low
pub record Sums (n T S C low : ℕ) : Type 0 where
  pub bits : ℕ
  pub fits : bits < 2 ^ n
  pub top : low ≡ bits * 2 ^ (64 - n)
  pub total : (S + C) * 2 ^ n + bits ≡ T

-- the bit that leaves goes to the top of low
low_step : (L b n B : ℕ) → n < 64 → B < 2 ^ n → L ≡ B * 2 ^ (64 - n) → xor_w (shr_w L 1) (b * 2 ^ 63) ≡ (b * 2 ^ n + B) * 2 ^ (64 - suc n)
low_step L b n B hn h_b hL =
    let q = 64 - suc n in
    let e : 64 - n ≡ suc q = omega arith in
    let L2 : L ≡ B * 2 ^ q * 2 = hL ∙ ap (λ (z : ℕ). B * 2 ^ z) e ∙ ap (λ (z : ℕ). B * z) (pow-suc 2 q) ∙ sym (mul_assoc B (2 ^ q) 2) in
    let half : L / 2 ≡ B * 2 ^ q = omega arith in
    let e63 : n + q ≡ 63 = omega arith in
    let pw : 2 ^ n * 2 ^ q ≡ 2 ^ 63 = sym (pow-add 2 n q) ∙ ap (λ (z : ℕ). 2 ^ z) e63 in
    let small : B * 2 ^ q < 2 ^ 63 = subst (λ (z : ℕ). B * 2 ^ q < z) pw (mul-lt-mul_of_pos_right h_b (pow_pos q)) in
    ap (λ (z : ℕ). xor_w z (b * 2 ^ 63)) (shr_is L 1 ∙ half) ∙ xor_comm (B * 2 ^ q) (b * 2 ^ 63) ∙ xor_packed b 63 (B * 2 ^ q) small
    ∙ ap (λ (z : ℕ). b * z + B * 2 ^ q) (sym pw) ∙ omega arith

bits_fit : (b B Q : ℕ) → b < 2 → B < Q → b * Q + B < 2 * Q
bits_fit b B Q hb h_b = let h : b ≤ 1 = omega arith in omega (arith, mul-le-mul_right Q h)

pub two_pow : (n : ℕ) → 2 ^ suc n ≡ 2 * 2 ^ n
two_pow n = omega arith

step_total : (S C P U K Q B T : ℕ) → U + K * 2 ≡ S + C + P → (S + C) * Q + B ≡ T → (U / 2 + K) * (2 * Q) + (U % 2 * Q + B) ≡ T + P * Q
step_total S C P U K Q B T h t = let d : U / 2 * 2 + U % 2 + K * 2 ≡ S + C + P = omega arith in omega (arith, ap (λ (z : ℕ). z * Q) d)

-- one row: the total grows by the addend at place n
pub carry_row_is : (n T S C low P : ℕ) → n < 64 → Sums n T S C low → Sums (suc n) (T + P * 2 ^ n) (halved S C P) (carry_of3 S C P) (lowered S C P low)
carry_row_is n T S C low P hn s =
    let U = sum_of3 S C P in
    let B = s.bits in
    record {
      bits = U % 2 * 2 ^ n + B;
      fits = subst (λ (z : ℕ). U % 2 * 2 ^ n + B < z) (sym (two_pow n)) (bits_fit (U % 2) B (2 ^ n) (omega arith) s.fits);
      top = ap (λ (z : ℕ). xor_w (shr_w low 1) z) (shl_keeps 1 63 U refl) ∙ low_step low (U % 2) n B hn s.fits s.top;
      total =
          ap₂ (λ (x z : ℕ). (x + carry_of3 S C P) * z + (U % 2 * 2 ^ n + B)) (shr_is U 1) (two_pow n)
          ∙ step_total S C P U (carry_of3 S C P) (2 ^ n) B T (carry_save S C P) s.total;
    }

-- words of k bits stay so, if the addend has at most one bit more
pub halved_lt : (k S C P : ℕ) → S < 2 ^ k → C < 2 ^ k → P < 2 ^ suc k → halved S C P < 2 ^ k
halved_lt k S C P hs hc hp =
    let e : 2 ^ suc k ≡ 2 * 2 ^ k = two_pow k in
    let h : sum_of3 S C P < 2 ^ suc k = sum_lt (suc k) S C P (omega arith) (omega arith) hp in
    subst (λ (x : ℕ). x < 2 ^ k) (sym (shr_is (sum_of3 S C P) 1)) (omega arith)
