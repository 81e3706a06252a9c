-- The product's rows: after n of them S, C and low hold n_x · 2^n + n_y + (y mod 2^n) · (2 m_x + 1), by induction over the row number.
-- Rests on Registers, CarrySave, Operands and Shifts.
use mathlib.Core.Path.{◌≡◌, refl, sym, ap, ap₂, ◌∙◌, subst}
use mathlib.Core.List.{List}
use Prim.Native.Nat.{ℕ, zero, suc, ◌+◌, ◌-◌, ◌*◌, ◌/◌, ◌%◌, ◌^◌, ◌≤◌, ◌<◌}
use native.Mathlib.Numerals.{one-add}
use native.Mathlib.Omega.{arith}
use lib.ListN.{length, get_or}
use lib.Pow.{mod-pow-add}
use Rattle.bits.specs.Ops.{xor_w, shr_w, spread_w}
use Rattle.bits.proofs.Digits.{digit, bit_lt}
use Rattle.bits.proofs.Xor.{xor_zero_l}
use Rattle.bits.proofs.Places.{shr_is}
use Rattle.binary64.proofs.ProductModel.{frac_lt}
use Rattle.plain.specs.Machine.{stepped}
use Rattle.plans.specs.words.ProductPlan.{carry_row, product_row, product_rows}
use Rattle.plans.proofs.Registers.{run_steps, run_append, tab, tabbed}
use Rattle.plans.proofs.product.Operands.{signif, comple}
use Rattle.plans.proofs.Fields.{spread_run}
use Rattle.plans.proofs.Shifts.{xor_ones}
use Rattle.plans.proofs.product.CarrySave.{halved, carry_of3, lowered, Sums, carry_row_is, halved_lt, carry_lt, two_pow}

abbrev pub at : List ℕ → ℕ → ℕ
at r i = get_or r i 0

-- ---- a row on registers: P is added; x, y, m_x, n_x and 1 stay
pub record Rowed (P : ℕ) (r r' : List ℕ) : Type 0 where
  pub len : length r' ≡ 32
  pub x : at r' 0 ≡ at r 0
  pub y : at r' 1 ≡ at r 1
  pub m : at r' 3 ≡ at r 3
  pub n : at r' 4 ≡ at r 4
  pub one : at r' 11 ≡ at r 11
  pub S : at r' 5 ≡ halved (at r 5) (at r 6) P
  pub C : at r' 6 ≡ carry_of3 (at r 5) (at r 6) P
  pub low : at r' 7 ≡ lowered (at r 5) (at r 6) P (at r 7)

-- row i's addend
abbrev addend : ℕ → ℕ → ℕ → ℕ
addend i y n = xor_w (shr_w (spread_w (shr_w y i)) 10) n

row_tab : (i : ℕ) (f : ℕ → ℕ) → Rowed (addend i (f 1) (f 4)) (tab f 0 32) (run_steps (product_row i) (tab f 0 32))
unfolding product_row carry_row stepped
row_tab i f = record { len = refl; x = refl; y = refl; m = refl; n = refl; one = refl; S = refl; C = refl; low = refl }

row_on : (i : ℕ) (r : List ℕ) → length r ≡ 32 → Rowed (addend i (at r 1) (at r 4)) r (run_steps (product_row i) r)
row_on i r h = subst (λ (q : List ℕ). Rowed (addend i (at q 1) (at q 4)) q (run_steps (product_row i) q)) (tabbed r h) (row_tab i (at r))

-- ---- what holds between rows: n rows done, total T
pub record Inv (x y n T : ℕ) (r : List ℕ) : Type 0 where
  pub len : length r ≡ 32
  pub hx : at r 0 ≡ x
  pub hy : at r 1 ≡ y
  pub hm : at r 3 ≡ signif x
  pub hn : at r 4 ≡ comple x
  pub one : at r 11 ≡ 1
  pub hs : at r 5 < 2 ^ 53
  pub hc : at r 6 < 2 ^ 53
  pub sums : Sums n T (at r 5) (at r 6) (at r 7)

pub row_inv : (x y n T P : ℕ) (r r' : List ℕ) → n < 64 → P < 2 ^ 54 → Inv x y n T r → Rowed P r r' → Inv x y (suc n) (T + P * 2 ^ n) r'
row_inv x y n T P r r' hn h_p v w =
    record {
      len = w.len;
      hx = w.x ∙ v.hx;
      hy = w.y ∙ v.hy;
      hm = w.m ∙ v.hm;
      hn = w.n ∙ v.hn;
      one = w.one ∙ v.one;
      hs = subst (λ (z : ℕ). z < 2 ^ 53) (sym w.S) (halved_lt 53 (at r 5) (at r 6) P v.hs v.hc h_p);
      hc = subst (λ (z : ℕ). z < 2 ^ 53) (sym w.C) (carry_lt 53 (at r 5) (at r 6) P v.hs v.hc);
      sums = rw (w.S, w.C, w.low) (carry_row_is n T (at r 5) (at r 6) (at r 7) P hn v.sums);
    }

-- ---- the digits +1 and -1: n_x, or 2 m_x + 1 more
digits : (x b : ℕ) → b < 2 → xor_w (b * (2 ^ 54 - 1)) (comple x) ≡ comple x + b * (2 * signif x + 1)
digits x b h =
    digit (λ b. xor_w (b * (2 ^ 54 - 1)) (comple x) ≡ comple x + b * (2 * signif x + 1))
    (xor_zero_l (comple x) ∙ omega arith)
    (xor_ones 54 (comple x) (omega arith) ∙ (let l = frac_lt x in omega arith)) b h

addend_is : (i x y : ℕ) → addend i y (comple x) ≡ comple x + y / 2 ^ i % 2 * (2 * signif x + 1)
addend_is i x y =
    ap (λ (z : ℕ). xor_w z (comple x)) (spread_run (shr_w y i) 10 54 refl) ∙ digits x (shr_w y i % 2) (bit_lt (shr_w y i))
    ∙ ap (λ (z : ℕ). comple x + z % 2 * (2 * signif x + 1)) (shr_is y i)

addend_lt : (x b : ℕ) → b < 2 → comple x + b * (2 * signif x + 1) < 2 ^ 54
addend_lt x b h =
    let l = frac_lt x in
    digit (λ b. comple x + b * (2 * signif x + 1) < 2 ^ 54) (omega arith) (omega arith) b h

-- the total after n rows
abbrev pub rows_total : ℕ → ℕ → ℕ → ℕ
rows_total x y n = comple x * 2 ^ n + comple y + y % 2 ^ n * (2 * signif x + 1)

total_step : (c e m Q b f : ℕ) → c * Q + e + f * m + (c + b * m) * Q ≡ c * (2 * Q) + e + (b * Q + f) * m
total_step c e m Q b f = omega arith

mod_suc : (y n : ℕ) → y % 2 ^ suc n ≡ y / 2 ^ n % 2 * 2 ^ n + y % 2 ^ n
mod_suc y n = ap (λ (z : ℕ). y % 2 ^ z) (sym (one-add n)) ∙ mod-pow-add y 1 n

rows_step : (x y n : ℕ) → rows_total x y n + (comple x + y / 2 ^ n % 2 * (2 * signif x + 1)) * 2 ^ n ≡ rows_total x y (suc n)
rows_step x y n =
    total_step (comple x) (comple y) (2 * signif x + 1) (2 ^ n) (y / 2 ^ n % 2) (y % 2 ^ n)
    ∙ ap₂ (λ (u v : ℕ). comple x * u + comple y + v * (2 * signif x + 1)) (sym (two_pow n)) (sym (mod_suc y n))

-- ---- n rows
pub rows_inv : (n x y : ℕ) (r : List ℕ) → n ≤ 63 → Inv x y 0 (rows_total x y 0) r → Inv x y n (rows_total x y n) (run_steps (product_rows n) r)
unfolding product_rows
rows_inv zero x y r h v = v
rows_inv (suc n) x y r h v =
    let r₁ = run_steps (product_rows n) r in
    let v₁ : Inv x y n (rows_total x y n) r₁ = rows_inv n x y r (omega arith) v in
    let e : addend n (at r₁ 1) (at r₁ 4) ≡ comple x + y / 2 ^ n % 2 * (2 * signif x + 1) = ap₂ (addend n) v₁.hy v₁.hn ∙ addend_is n x y in
    let w : Rowed (comple x + y / 2 ^ n % 2 * (2 * signif x + 1)) r₁ (run_steps (product_row n) r₁) =
    subst (λ (z : ℕ). Rowed z r₁ (run_steps (product_row n) r₁)) e (row_on n r₁ v₁.len) in
    subst (λ (q : List ℕ). Inv x y (suc n) (rows_total x y (suc n)) q) (sym (run_append (product_rows n) (product_row n) r))
    (subst (λ (t : ℕ). Inv x y (suc n) t (run_steps (product_row n) r₁)) (rows_step x y n)
    (row_inv x y n (rows_total x y n) _ r₁ (run_steps (product_row n) r₁) (omega arith) (addend_lt x (y / 2 ^ n % 2) (bit_lt (y / 2 ^ n))) v₁ w))

-- row 52: m_x is added
mx_tab : (f : ℕ → ℕ) → Rowed (f 3) (tab f 0 32) (run_steps (carry_row 3) (tab f 0 32))
unfolding carry_row stepped
mx_tab f = record { len = refl; x = refl; y = refl; m = refl; n = refl; one = refl; S = refl; C = refl; low = refl }

pub row_mx : (x y n T : ℕ) (r : List ℕ) → n < 64 → Inv x y n T r → Inv x y (suc n) (T + signif x * 2 ^ n) (run_steps (carry_row 3) r)
row_mx x y n T r h v =
    let w : Rowed (at r 3) r (run_steps (carry_row 3) r) = subst (λ (q : List ℕ). Rowed (at q 3) q (run_steps (carry_row 3) q)) (tabbed r v.len) (mx_tab (at r)) in
    row_inv x y n T (signif x) r (run_steps (carry_row 3) r) h (let l = frac_lt x in omega arith) v
    (subst (λ (z : ℕ). Rowed z r (run_steps (carry_row 3) r)) v.hm w)
