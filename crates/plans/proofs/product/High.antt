-- The product of the significands less 1, with the exponents: from any registers, what the plan's head, its 52 rows and the rows 52 and 53 leave.
-- Rests on Rows.
use mathlib.Core.Path.{◌≡◌, refl, sym, ap, ap₂, ◌∙◌, subst}
use mathlib.Core.List.{List, ◌++◌}
use Prim.Native.Nat.{ℕ, suc, ◌+◌, ◌-◌, ◌*◌, ◌/◌, ◌%◌, ◌^◌, ◌≤◌, ◌<◌}
use native.Mathlib.Nat.{mul-le-mul, mod-lt, mod-one, div-add-mod', mul-lt-mul_of_pos_right, mul-le-mul_left, lt_of_le_of_lt}
use native.Mathlib.Omega.{arith}
use lib.Arith.{digits_div, digits_mod}
use lib.ListN.{length}
use lib.Pow.{pow_pos}
use Rattle.bits.specs.Ops.{xor_w, not_w, shl_w, shr_w}
use Rattle.bits.proofs.Shift.{shl_zero}
use Rattle.binary64.specs.Number.{expo, frac}
use Rattle.binary64.proofs.ProductModel.{frac_lt}
use Rattle.word.specs.declared.step.Step.{Step}
use Rattle.plain.specs.Machine.{stepped}
use Rattle.plans.specs.words.ProductPlan.{product_head, carry_row, product_rows, with_exponents, last_rows}
use Rattle.plans.proofs.Registers.{run_steps, run_append, tab, tabbed}
use Rattle.plans.proofs.Fields.{low_bits, pack}
use Rattle.plans.proofs.Shifts.{not_is, exponent}
use Rattle.plans.proofs.product.CarrySave.{carry_of3, halved, lowered, Sums, carry_row_is, halved_lt, carry_lt}
use Rattle.plans.proofs.product.Operands.{expo_lt, signif, comple, comple_sum}
use Rattle.plans.proofs.product.Rows.{at, Inv, rows_total, rows_inv, row_mx}

-- ---- the head
abbrev low_of : ℕ → ℕ
low_of a = shr_w (shl_w a 12) 12

record Begun (r r' : List ℕ) : Type 0 where
  len : length r' ≡ 32
  x : at r' 0 ≡ at r 0
  y : at r' 1 ≡ at r 1
  m : at r' 3 ≡ xor_w (low_of (at r 0)) (shl_w 1 52)
  n : at r' 4 ≡ low_of (not_w (at r 0))
  S : at r' 5 ≡ shl_w (low_of (not_w (at r 0))) 0
  C : at r' 6 ≡ low_of (not_w (at r 1))
  low : at r' 7 ≡ 0
  one : at r' 11 ≡ 1

head_tab : (f : ℕ → ℕ) → Begun (tab f 0 32) (run_steps product_head (tab f 0 32))
unfolding product_head stepped
head_tab f = record { len = refl; x = refl; y = refl; m = refl; n = refl; S = refl; C = refl; low = refl; one = refl }

low_is : (a : ℕ) → low_of a ≡ frac a
low_is a = low_bits a 12 52 refl

signif_is : (a : ℕ) → xor_w (low_of a) (shl_w 1 52) ≡ signif a
signif_is a = ap (λ (z : ℕ). xor_w z (shl_w 1 52)) (low_is a) ∙ pack 1 52 (frac a) 1 (frac_lt a) (omega arith) (omega arith)

comple_is : (a : ℕ) → a < 2 ^ 64 → low_of (not_w a) ≡ comple a
comple_is a h = low_is (not_w a) ∙ ap frac (not_is a) ∙ omega arith

head_inv : (x y : ℕ) (r : List ℕ) → length r ≡ 32 → at r 0 ≡ x → at r 1 ≡ y → x < 2 ^ 64 → y < 2 ^ 64
    → Inv x y 0 (rows_total x y 0) (run_steps product_head r)
head_inv x y r len ex ey hx hy =
    let b : Begun r (run_steps product_head r) = subst (λ (q : List ℕ). Begun q (run_steps product_head q)) (tabbed r len) (head_tab (at r)) in
    let n : low_of (not_w (at r 0)) ≡ comple x = ap (λ (z : ℕ). low_of (not_w z)) ex ∙ comple_is x hx in
    let es : at (run_steps product_head r) 5 ≡ comple x = b.S ∙ ap (λ (z : ℕ). shl_w z 0) n ∙ shl_zero (comple x) (omega arith) in
    let ec : at (run_steps product_head r) 6 ≡ comple y = b.C ∙ ap (λ (z : ℕ). low_of (not_w z)) ey ∙ comple_is y hy in
    record {
      len = b.len;
      hx = b.x ∙ ex;
      hy = b.y ∙ ey;
      hm = b.m ∙ ap (λ (z : ℕ). xor_w (low_of z) (shl_w 1 52)) ex ∙ signif_is x;
      hn = b.n ∙ n;
      one = b.one;
      hs = subst (λ (z : ℕ). z < 2 ^ 53) (sym es) (omega arith);
      hc = subst (λ (z : ℕ). z < 2 ^ 53) (sym ec) (omega arith);
      sums =
          record {
            bits = 0;
            fits = omega arith;
            top = b.low;
            total = ap₂ (λ (u v : ℕ). (u + v) * 2 ^ 0 + 0) es ec ∙ start (comple x) (comple y) (y % 1) (2 * signif x + 1) (mod-one y);
          };
    }
  where
    start : (c d f m : ℕ) → f ≡ 0 → (c + d) * 1 + 0 ≡ c * 1 + d + f * m
    start c d f m e = omega (arith, ap (λ (z : ℕ). z * m) e)

-- ---- row 53
abbrev expo_of : ℕ → ℕ
expo_of a = shl_w (shr_w (shl_w a 1) 53) 53

abbrev S₀ : List ℕ → ℕ
S₀ r = xor_w (at r 5) (expo_of (at r 0))

abbrev C₀ : List ℕ → ℕ
C₀ r = xor_w (at r 6) (expo_of (at r 1))

-- F_x and 2^53
abbrev P₀ : List ℕ → ℕ
P₀ r = xor_w (low_of (at r 0)) (shl_w (at r 11) 53)

record Topped (r r' : List ℕ) : Type 0 where
  len : length r' ≡ 32
  x : at r' 0 ≡ at r 0
  y : at r' 1 ≡ at r 1
  one : at r' 11 ≡ at r 11
  S : at r' 5 ≡ halved (S₀ r) (C₀ r) (P₀ r)
  C : at r' 6 ≡ carry_of3 (S₀ r) (C₀ r) (P₀ r)
  low : at r' 7 ≡ lowered (S₀ r) (C₀ r) (P₀ r) (at r 7)

abbrev row_top : List Step
row_top = with_exponents ++ carry_row 10

top_tab : (f : ℕ → ℕ) → Topped (tab f 0 32) (run_steps row_top (tab f 0 32))
unfolding with_exponents carry_row stepped
top_tab f = record { len = refl; x = refl; y = refl; one = refl; S = refl; C = refl; low = refl }

-- more in S and C is more in the total
sums_add : (n T S C low a b : ℕ) → Sums n T S C low → Sums n (T + (a + b) * 2 ^ n) (a + S) (b + C) low
sums_add n T S C low a b s =
    record { bits = s.bits; fits = s.fits; top = s.top; total = more S C a b (2 ^ n) s.bits T s.total }
  where
    more : (S C a b Q B T : ℕ) → (S + C) * Q + B ≡ T → (a + S + (b + C)) * Q + B ≡ T + (a + b) * Q
    more S C a b Q B T h = omega arith

-- with w = 2^52, c = n_x and d = n_y: the rows' addends make 2 q + 1, and the exponents, for the product q + 1 of the significands
end_total : (w c d F G E H q : ℕ) → c + F + 1 ≡ w → d + G + 1 ≡ w → (w + F) * (w + G) ≡ suc q
    → c * w + d + G * (2 * (w + F) + 1) + (w + F) * w + (E * (2 * w) + H * (2 * w)) * (2 * w) + (2 * w + F) * (2 * w)
    ≡ 2 * (q + (E + H + 1) * w * (2 * w)) + 1
end_total w c d F G E H q h g p = omega (arith, ap (λ (z : ℕ). z * w) h)

-- the high part and the low bits of a total 2 (q + e · W) + 1
record Halves (q e W A B : ℕ) : Type 0 where
  high : A ≡ e + q / W
  low : B ≡ q % W * 2 + 1

halves : (q e W A B : ℕ) → 0 < W → B < 2 * W → A * (2 * W) + B ≡ 2 * (q + e * W) + 1 → Halves q e W A B
halves q e W A B h_w h_b h =
    let b = B / 2 in
    let bl : b < W = omega arith in
    let odd : B ≡ b * 2 + 1 = odd_of A W B (q + e * W) h in
    let t : A * W + b ≡ (e + q / W) * W + q % W = half A W b B (q + e * W) odd h ∙ split q e W (q / W) (q % W) (div-add-mod' q W) in
    let ql : q % W < W = mod-lt q h_w in
    record {
      high = sym (digits_div A bl) ∙ ap (λ (z : ℕ). z / W) t ∙ digits_div (e + q / W) ql;
      low = odd ∙ ap (λ (z : ℕ). z * 2 + 1) (sym (digits_mod A bl) ∙ ap (λ (z : ℕ). z % W) t ∙ digits_mod (e + q / W) ql);
    }
  where
    odd_of : (A W B t : ℕ) → A * (2 * W) + B ≡ 2 * t + 1 → B ≡ B / 2 * 2 + 1
    odd_of A W B t h = omega arith

    half : (A W b B t : ℕ) → B ≡ b * 2 + 1 → A * (2 * W) + B ≡ 2 * t + 1 → A * W + b ≡ t
    half A W b B t e h = omega arith

    split : (p e W h l : ℕ) → h * W + l ≡ p → p + e * W ≡ (e + h) * W + l
    split p e W h l g = omega arith

-- ---- what the last segments start from
pub record High (x y : ℕ) (r : List ℕ) : Type 0 where
  pub len : length r ≡ 32
  pub hx : at r 0 ≡ x
  pub hy : at r 1 ≡ y
  pub one : at r 11 ≡ 1
  pub S_lt : at r 5 < 2 ^ 64
  pub C_lt : at r 6 < 2 ^ 64
  pub total : at r 5 + at r 6 ≡ (expo x + expo y + 1) * 2 ^ 52 + (signif x * signif y - 1) / 2 ^ 53
  pub low : at r 7 ≡ (signif x * signif y - 1) % 2 ^ 53 * 2 ^ 11 + 2 ^ 10

pub product_ge : (x y : ℕ) → 2 ^ 104 ≤ signif x * signif y
product_ge x y =
    let l : 2 ^ 52 ≤ signif x = omega arith in
    let r : 2 ^ 52 ≤ signif y = omega arith in
    mul-le-mul l r

pub product_lt : (x y : ℕ) → signif x * signif y < 2 ^ 106
product_lt x y =
    let fx = frac_lt x in
    let fy = frac_lt y in
    let hx : signif x < 2 ^ 53 = omega arith in
    let hy : signif y ≤ 2 ^ 53 = omega arith in
    lt_of_le_of_lt (mul-le-mul_left (signif x) hy) (mul-lt-mul_of_pos_right hx (pow_pos 53))

-- an exponent above 53 bits
lifted : (s a b : ℕ) → s < 2 ^ 53 → b ≡ a → xor_w s (expo_of b) ≡ expo a * 2 ^ 53 + s
lifted s a b h e =
    ap (λ (z : ℕ). xor_w s (expo_of z)) e ∙ ap (λ (z : ℕ). xor_w s (shl_w z 53)) (exponent a) ∙ pack 11 53 s (expo a) h (expo_lt a) (omega arith)

addend_is : (x a b : ℕ) → a ≡ x → b ≡ 1 → xor_w (low_of a) (shl_w b 53) ≡ 2 ^ 53 + frac x
addend_is x a b e f =
    ap₂ (λ (u v : ℕ). xor_w (low_of u) (shl_w v 53)) e f ∙ ap (λ (z : ℕ). xor_w z (shl_w 1 53)) (low_is x)
    ∙ pack 1 53 (frac x) 1 (let l = frac_lt x in omega arith) (omega arith) (omega arith)

top_high : (x y : ℕ) (r : List ℕ) → Inv x y 53 (rows_total x y 52 + signif x * 2 ^ 52) r → High x y (run_steps row_top r)
top_high x y r v =
    let w : Topped r (run_steps row_top r) = subst (λ (q : List ℕ). Topped q (run_steps row_top q)) (tabbed r v.len) (top_tab (at r)) in
    let S = expo x * 2 ^ 53 + at r 5 in
    let C = expo y * 2 ^ 53 + at r 6 in
    let P = 2 ^ 53 + frac x in
    let e_s : S₀ r ≡ S = lifted (at r 5) x (at r 0) v.hs v.hx in
    let e_c : C₀ r ≡ C = lifted (at r 6) y (at r 1) v.hc v.hy in
    let e_p : P₀ r ≡ P = addend_is x (at r 0) (at r 11) v.hx v.one in
    let Sl : S < 2 ^ 64 = wide (expo x) (at r 5) (expo_lt x) v.hs in
    let Cl : C < 2 ^ 64 = wide (expo y) (at r 6) (expo_lt y) v.hc in
    let Pl : P < 2 ^ 65 = let l = frac_lt x in omega arith in
    let T = rows_total x y 52 + signif x * 2 ^ 52 in
    let s = carry_row_is 53 (T + (expo x * 2 ^ 53 + expo y * 2 ^ 53) * 2 ^ 53) S C (at r 7) P (omega arith)
    (sums_add 53 T (at r 5) (at r 6) (at r 7) (expo x * 2 ^ 53) (expo y * 2 ^ 53) v.sums) in
    let q = signif x * signif y - 1 in
    let e = (expo x + expo y + 1) * 2 ^ 52 in
    let A = halved S C P + carry_of3 S C P in
    let p : signif x * signif y ≡ suc q = less_one (signif x * signif y) (product_ge x y) in
    let k : Halves q e (2 ^ 53) A s.bits =
    halves q e (2 ^ 53) A s.bits (pow_pos 53) s.fits
    (s.total ∙ end_total (2 ^ 52) (comple x) (comple y) (frac x) (frac y) (expo x) (expo y) q (comple_sum x) (comple_sum y) p) in
    let f_s : at (run_steps row_top r) 5 ≡ halved S C P = w.S ∙ ap₂ (λ (a b : ℕ). halved a b (P₀ r)) e_s e_c ∙ ap (halved S C) e_p in
    let f_c : at (run_steps row_top r) 6 ≡ carry_of3 S C P = w.C ∙ ap₂ (λ (a b : ℕ). carry_of3 a b (P₀ r)) e_s e_c ∙ ap (carry_of3 S C) e_p in
    record {
      len = w.len;
      hx = w.x ∙ v.hx;
      hy = w.y ∙ v.hy;
      one = w.one ∙ v.one;
      S_lt = subst (λ (z : ℕ). z < 2 ^ 64) (sym f_s) (halved_lt 64 S C P Sl Cl Pl);
      C_lt = subst (λ (z : ℕ). z < 2 ^ 64) (sym f_c) (carry_lt 64 S C P Sl Cl);
      total = ap₂ (λ (a b : ℕ). a + b) f_s f_c ∙ k.high;
      low =
          w.low ∙ ap₂ (λ (a b : ℕ). lowered a b (P₀ r) (at r 7)) e_s e_c ∙ ap (λ (f : ℕ). lowered S C f (at r 7)) e_p
          ∙ s.top ∙ ap (λ (z : ℕ). z * 2 ^ 10) k.low ∙ up (q % 2 ^ 53);
    }
  where
    wide : (E s : ℕ) → E < 2048 → s < 2 ^ 53 → E * 2 ^ 53 + s < 2 ^ 64
    wide E s a b = omega arith

    less_one : (p : ℕ) → 2 ^ 104 ≤ p → p ≡ suc (p - 1)
    less_one p h = omega arith

    up : (l : ℕ) → (l * 2 + 1) * 2 ^ 10 ≡ l * 2 ^ 11 + 2 ^ 10
    up l = omega arith

-- head, rows 0 to 51, row 52 and row 53
pub high_half_is : (x y : ℕ) (r : List ℕ) → length r ≡ 32 → at r 0 ≡ x → at r 1 ≡ y → x < 2 ^ 64 → y < 2 ^ 64
    → High x y (run_steps last_rows (run_steps (product_rows 52) (run_steps product_head r)))
unfolding last_rows
high_half_is x y r len ex ey hx hy =
    let v : Inv x y 52 (rows_total x y 52) (run_steps (product_rows 52) (run_steps product_head r)) =
    rows_inv 52 x y (run_steps product_head r) (omega arith) (head_inv x y r len ex ey hx hy) in
    let r₁ = run_steps (product_rows 52) (run_steps product_head r) in
    subst (λ (q : List ℕ). High x y q) (sym (run_append (carry_row 3) row_top r₁))
    (top_high x y (run_steps (carry_row 3) r₁) (row_mx x y 52 (rows_total x y 52) r₁ (omega arith) v))
