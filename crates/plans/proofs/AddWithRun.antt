-- The carries and the run of a sum of two words by six steps of specs/CarryRun (`whole_run_is`). The lowest zero of a ^ b is that of a + b, so that the XOR with NOT (N << 1) adds 1
-- (`plus_one`). A step with one AND does what a step with two does, where only top places hold a 1. Rests on CarryRun, RunOfOnes and bits' Adder.
use mathlib.Core.Path.{◌≡◌, refl, sym, ap, ap₂, ◌∙◌, subst}
use mathlib.Core.Logic.{inl, inr}
use Prim.Native.Nat.{ℕ, suc, ◌+◌, ◌-◌, ◌*◌, ◌/◌, ◌%◌, ◌^◌, ◌≤◌, ◌<◌, min}
use native.Mathlib.Nat.{mod-lt, mod-eq_of_lt, mul_assoc, add-zero, lt_of_lt_of_le, eq-zero-or-pos, pow-suc, mul-add-mod_self_right}
use native.Mathlib.Omega.{arith}
use lib.Bits.{differ}
use lib.Pow as Pow
use lib.Pow.{pow_pos, pow_mono, pow-add, mod-mod-pow}
use Rattle.bits.specs.Ops.{xor_w, and_w, not_w, shl_w, shr_w, add_w}
use Rattle.bits.proofs.Digits.{digit, bit_lt, bit}
use Rattle.bits.proofs.Xor.{xor_comm, and_zero}
use Rattle.bits.proofs.Bound.{xor_lt, and_lt, not_lt, add_lt}
use Rattle.bits.proofs.Shift.{shl_width}
use Rattle.bits.proofs.Sum.{xor_packed, xor_and_sum}
use Rattle.bits.proofs.Adder.{CarriesOut, carries_out}
use Rattle.bits.proofs.Places.{shr_is, shl_exact, and_block, bit_xor, bit_and, bit_not, bit_mod, bit_above, lowest, ones_by_bits}
use Rattle.binary64.proofs.Cases.{lt_or_ge}
use Rattle.plans.proofs.Shifts.{not_is, add_is, shl_keeps}
use Rattle.plans.proofs.RunOfOnes.{run_mask, lowest_zero, next_by_mask}
use Rattle.plans.proofs.CarryRun.{carry_g, carry_n, Carried, carried_step, carried_all, Window, window_step}

-- ---- a step with one AND, in the f top and the f low places, g = 64 - f
unfoldable pub pair_and : ℕ → ℕ → ℕ → ℕ → ℕ
pair_and g k G N = let p : ℕ = shr_w (not_w N) g in and_w (xor_w p (shl_w p g)) (xor_w (shl_w G k) (shr_w (shl_w N k) g))

unfoldable pub pair_g : ℕ → ℕ → ℕ → ℕ → ℕ
pair_g g k G N = xor_w G (shl_w (shr_w (pair_and g k G N) g) g)

unfoldable pub pair_n : ℕ → ℕ → ℕ → ℕ → ℕ
pair_n g k G N = xor_w N (shl_w (pair_and g k G N) g)

-- what is shifted has only top places
pub record Paired (g k G N : ℕ) : Type 0 where
  pub γ : ℕ
  pub ν : ℕ
  pub γ_lt : γ < 2 ^ (64 - g)
  pub ν_lt : ν < 2 ^ (64 - g)
  pub γ_is : shl_w G k ≡ γ * 2 ^ g
  pub ν_is : shl_w N k ≡ ν * 2 ^ g

module _ (g k G N : ℕ) (lo : 32 ≤ g) (hi : g ≤ 64) (q : Paired g k G N) where
  f : ℕ
  f = 64 - g

  abbrev p : ℕ
  p = not_w N / 2 ^ g

  f_le : 2 ^ f ≤ 2 ^ g
  unfolding f
  f_le = pow_mono {i = 64 - g} {j = g} (omega arith)

  p_lt : p < 2 ^ f
  unfolding f
  p_lt = let e : 64 ≡ 64 - g + g = omega arith in Pow.shr_lt (64 - g) g (subst (λ (w : ℕ). not_w N < 2 ^ w) e (not_lt N))

  and_is : pair_and g k G N ≡ and_w p q.γ * 2 ^ g + and_w p q.ν
  unfolding pair_and f
  and_is =
      let a : shr_w (not_w N) g ≡ p = shr_is (not_w N) g in
      let v : shr_w (shl_w N k) g ≡ q.ν = shr_is (shl_w N k) g ∙ ap (λ (x : ℕ). x / 2 ^ g) q.ν_is ∙ Pow.shl-shr q.ν g in
      let pl : p < 2 ^ g = lt_of_lt_of_le p_lt f_le in
      let vl : q.ν < 2 ^ g = lt_of_lt_of_le q.ν_lt f_le in
      ap₂ (λ (x y : ℕ). and_w (xor_w x (shl_w x g)) (xor_w (shl_w G k) y)) a v
      ∙ ap₂ and_w (ap (xor_w p) (shl_exact (64 - g) g p p_lt (omega arith)) ∙ xor_comm p (p * 2 ^ g) ∙ xor_packed p g p pl)
      (ap (λ (x : ℕ). xor_w x q.ν) q.γ_is ∙ xor_packed q.γ g q.ν vl)
      ∙ and_block g p q.γ p q.ν pl vl

  X : ℕ
  X = and_w p q.γ

  Y : ℕ
  Y = and_w p q.ν

  X_lt : X < 2 ^ (64 - g)
  unfolding X f
  X_lt = and_lt (64 - g) p q.γ p_lt

  Y_lt : Y < 2 ^ (64 - g)
  unfolding Y f
  Y_lt = and_lt (64 - g) p q.ν p_lt

  Y_low : Y < 2 ^ g
  unfolding f
  Y_low = lt_of_lt_of_le Y_lt f_le

  -- the AND with a word that has only top places
  and_above : (w z : ℕ) → w ≡ z * 2 ^ g → and_w (not_w N) w ≡ and_w p z * 2 ^ g
  and_above w z e =
      let r : ℕ = not_w N % 2 ^ g in
      ap₂ and_w (sym (Pow.split (not_w N) g)) (e ∙ sym (add-zero (z * 2 ^ g))) ∙ and_block g p z r 0 (mod-lt (not_w N) (pow_pos g)) (pow_pos g)
      ∙ ap (λ (x : ℕ). and_w p z * 2 ^ g + x) (and_zero r) ∙ add-zero (and_w p z * 2 ^ g)

  pub pair_G : pair_g g k G N ≡ carry_g k G N
  unfolding pair_g carry_g X Y
  pair_G =
      ap (λ (x : ℕ). xor_w G (shl_w x g)) (shr_is (pair_and g k G N) g ∙ ap (λ (x : ℕ). x / 2 ^ g) and_is ∙ Pow.high X g Y_low)
      ∙ ap (xor_w G) (shl_exact (64 - g) g X X_lt (omega arith) ∙ sym (and_above (shl_w G k) q.γ q.γ_is))

  pub pair_N : pair_n g k G N ≡ carry_n k N
  unfolding pair_n carry_n X Y
  pair_N =
      let e : g ≡ g - (64 - g) + (64 - g) = omega arith in
      let low : (X * 2 ^ g + Y) % 2 ^ (64 - g) ≡ Y =
      ap (λ (x : ℕ). (X * x + Y) % 2 ^ (64 - g)) (ap (λ (x : ℕ). 2 ^ x) e ∙ pow-add 2 (g - (64 - g)) (64 - g))
      ∙ ap (λ (x : ℕ). (x + Y) % 2 ^ (64 - g)) (sym (mul_assoc X (2 ^ (g - (64 - g))) (2 ^ (64 - g)))) ∙ Pow.low (X * 2 ^ (g - (64 - g))) (64 - g) Y_lt in
      ap (xor_w N)
      (shl_keeps (64 - g) g (pair_and g k G N) (omega arith) ∙ ap (λ (x : ℕ). x % 2 ^ (64 - g) * 2 ^ g) and_is ∙ ap (λ (x : ℕ). x * 2 ^ g) low
      ∙ sym (and_above (shl_w N k) q.ν q.ν_is))

-- ---- the run adds 1: its lowest zero in a ^ b, at m, is that of a + b
module _ (a b : ℕ) (ha : a < 2 ^ 64) (hb : b < 2 ^ 64) where
  abbrev H : ℕ
  H = xor_w a b

  H_lt : H < 2 ^ 64
  H_lt = xor_lt 64 a b ha hb

  -- below m one of a and b has a 1, and not both
  apart : (m : ℕ) → m ≤ 64 → ((i : ℕ) → i < m → bit (not_w H) i ≡ 0) → and_w a b % 2 ^ m ≡ 0
  apart m l none =
      ones_by_bits m 0 (and_w a b % 2 ^ m) (omega arith) (mod-lt (and_w a b) (pow_pos m)) (λ i h. absurd (omega arith))
      (λ i g h. bit_mod (and_w a b) m i h ∙ bit_and a b i ∙ only (bit a i) (bit b i) (bit_lt (a / 2 ^ i)) (bit_lt (b / 2 ^ i))
      (sym (bit_xor a b i) ∙ omega (arith, bit_not (xor_w a b) i (xor_lt 64 a b ha hb) (omega arith), none i h)))
    where
      only : (x y : ℕ) → x < 2 → y < 2 → differ x y ≡ 1 → min x y ≡ 0
      only x y hx hy =
          digit (λ x. differ x y ≡ 1 → min x y ≡ 0) (λ e. omega arith) (digit (λ y. differ 1 y ≡ 1 → min 1 y ≡ 0) (λ e. refl) (λ e. absurd (omega arith)) y hy) x hx

  sum_plus_one : (N m : ℕ) → Window m 64 N → N < 2 ^ 64 → ((i : ℕ) → i < m → i < 64 → bit (not_w H) i ≡ 0) → (m < 64 → bit (not_w H) m ≡ 1)
      → xor_w (add_w a b) (not_w (shl_w N 1)) ≡ (a + b + 1) % 2 ^ 64
  sum_plus_one N m w h_n none one = elim (lt_or_ge m 64) [ inl l ↦ some l | inr l ↦ all l ]
    where
      Q : ℕ
      Q = and_w a b

      twice : H + Q * 2 ≡ a + b
      twice = xor_and_sum a b

      some : m < 64 → xor_w (add_w a b) (not_w (shl_w N 1)) ≡ (a + b + 1) % 2 ^ 64
      some l =
          let z : Q % 2 ^ m ≡ 0 = apart m (omega arith) (λ i h. none i h (omega arith)) in
          let t : a + b ≡ Q / 2 ^ m * 2 ^ suc m + H = sym twice ∙ above (Q / 2 ^ m) (Q % 2 ^ m) (2 ^ m) (2 ^ suc m) Q H (Pow.split Q m) z (pow-suc 2 m) in
          let e : 64 ≡ 63 - m + suc m = omega arith in
          let low : add_w a b % 2 ^ suc m ≡ 2 ^ m - 1 =
          ap (λ (x : ℕ). x % 2 ^ suc m) (add_is a b ∙ ap (λ (x : ℕ). (a + b) % 2 ^ x) e) ∙ mod-mod-pow (a + b) (63 - m) (suc m)
          ∙ ap (λ (x : ℕ). x % 2 ^ suc m) t ∙ mul-add-mod_self_right (Q / 2 ^ m) (2 ^ suc m) H ∙ lowest_zero H m H_lt l (one l) (λ i h. none i h (omega arith)) in
          let n : xor_w (add_w a b) (not_w (shl_w N 1)) ≡ add_w a b + 1 =
          ap (xor_w (add_w a b)) (run_mask N m l (λ i h. w.zeros i h (omega arith)) (λ i g h. w.ones i g (omega arith) h)) ∙ next_by_mask (add_w a b) m low in
          let h : add_w a b + 1 < 2 ^ 64 = subst (λ (x : ℕ). x < 2 ^ 64) n (xor_lt 64 (add_w a b) (not_w (shl_w N 1)) (add_lt a b) (not_lt (shl_w N 1))) in
          n ∙ wraps (a + b) (add_w a b) (add_is a b) h
        where
          above : (x r c c2 q h : ℕ) → x * c + r ≡ q → r ≡ 0 → c2 ≡ c * 2 → h + q * 2 ≡ x * c2 + h
          above x r c c2 q h e z d = ap (λ (v : ℕ). h + v * 2) (sym e) ∙ omega (arith, ap (λ (v : ℕ). x * v) d)

          wraps : (s r : ℕ) → r ≡ s % 2 ^ 64 → r + 1 < 2 ^ 64 → r + 1 ≡ (s + 1) % 2 ^ 64
          wraps s r e h = omega arith

      all : 64 ≤ m → xor_w (add_w a b) (not_w (shl_w N 1)) ≡ (a + b + 1) % 2 ^ 64
      all l =
          let none64 : (i : ℕ) → i < 64 → bit (not_w H) i ≡ 0 = λ i h. none i (omega arith) h in
          let n : N ≡ 0 = ones_by_bits 64 0 N (omega arith) h_n (λ i h. absurd (omega arith)) (λ i g h. w.zeros i (omega arith) h) in
          let k : not_w H ≡ 0 = ones_by_bits 64 0 (not_w H) (omega arith) (not_lt H) (λ i h. absurd (omega arith)) (λ i g h. none64 i h) in
          let q : Q ≡ 0 = sym (mod-eq_of_lt (and_lt 64 a b ha)) ∙ apart 64 (omega arith) none64 in
          let t : a + b ≡ 2 ^ 64 - 1 = let h = H_lt in omega (arith, twice, not_is H) in
          let full : xor_w (2 ^ 64 - 1) (not_w (shl_w 0 1)) ≡ 0 = unfold xor_w not_w shl_w in refl in
          ap₂ (λ (x y : ℕ). xor_w x (not_w (shl_w y 1))) (add_is a b ∙ ap (λ (x : ℕ). x % 2 ^ 64) t) n ∙ full ∙ sym (ap (λ (x : ℕ). (x + 1) % 2 ^ 64) t)

  -- where the steps start: the carries made in each place, and NOT H
  module _ (K : CarriesOut a b) where
    begun : Carried K.carries 1 (and_w a b) (not_w H)
    begun =
        record {
          g_lt = and_lt 64 a b ha;
          n_lt = not_lt H;
          carries = K.made ∙ ap (λ (x : ℕ). xor_w (and_w a b) (and_w x (shl_w K.carries 1))) (sym twice);
        }
      where
        twice : not_w (not_w H) ≡ H
        twice = let h = H_lt in not_is (not_w H) ∙ ap (λ (x : ℕ). (2 ^ 64 - 1) - x) (not_is H) ∙ omega arith

  -- the lowest zero of H, or 64
  pub record Lowest-zero : Type 0 where
    pub m : ℕ
    pub none : (i : ℕ) → i < m → i < 64 → bit (not_w H) i ≡ 0
    pub one : m < 64 → bit (not_w H) m ≡ 1

  lowest_of : Lowest-zero
  lowest_of =
      elim (eq-zero-or-pos (not_w H)) [
        | inl e ↦ record { m = 64; none = λ i h l. ap (λ (x : ℕ). bit x i) e ∙ bit_above 0 0 i (omega arith) (omega arith); one = λ h. absurd (omega arith) }
        | inr q ↦ let low = lowest 64 (not_w H) q (not_lt H) in record { m = low.0; none = λ i h l. low.2.1 i h; one = λ h. low.2.0 }
      ]

  opened : (z : Lowest-zero) → Window z.m 1 (not_w H)
  opened z = record { zeros = z.none; ones = λ i l h g. let e : i ≡ z.m = omega arith in ap (bit (not_w H)) e ∙ z.one (omega arith) }

-- ---- carries and run on the way
pub record Words : Type 0 where
  pub G : ℕ
  pub N : ℕ

abbrev pub begin : ℕ → ℕ → Words
begin a b = record { G = and_w a b; N = not_w (xor_w a b) }

abbrev pub step : ℕ → Words → Words
step k w = record { G = carry_g k w.G w.N; N = carry_n k w.N }

abbrev pub pair : ℕ → ℕ → Words → Words
pair g k w = record { G = pair_g g k w.G w.N; N = pair_n g k w.G w.N }

pub record Held (K m k : ℕ) (w : Words) : Type 0 where
  pub carried : Carried K k w.G w.N
  pub window : Window m k w.N

held_step : (K m k : ℕ) (w : Words) → Held K m k w → Held K m (k + k) (step k w)
held_step K m k w h = record { carried = carried_step K k w.G w.N h.carried; window = window_step m k w.N h.carried.n_lt h.window }

pub held_pair : (K m g k : ℕ) (w : Words) → 32 ≤ g → g ≤ 64 → Paired g k w.G w.N → Held K m k w → Held K m (k + k) (pair g k w)
held_pair K m g k w lo hi q h =
    let s = held_step K m k w h in
    record {
      carried = rw (pair_G g k w.G w.N lo hi q, pair_N g k w.G w.N lo hi q) s.carried;
      window = rw (pair_N g k w.G w.N lo hi q) s.window;
    }

-- ---- two words: six steps
unfoldable pub whole_run : ℕ → ℕ → Words
whole_run a b = pair 32 32 (step 16 (step 8 (step 4 (step 2 (step 1 (begin a b))))))

-- any word shifted by 32 has only 32 top places
halves : (G N : ℕ) → Paired 32 32 G N
halves G N =
    record {
      γ = G % 2 ^ 32;
      ν = N % 2 ^ 32;
      γ_lt = mod-lt G (pow_pos 32);
      ν_lt = mod-lt N (pow_pos 32);
      γ_is = shl_keeps 32 32 G refl;
      ν_is = shl_keeps 32 32 N refl;
    }

-- what such a run is to leave: the carries of a + b, and the run that adds 1
pub record Runs (a b : ℕ) (w : Words) : Type 0 where
  pub g_lt : w.G < 2 ^ 64
  pub n_lt : w.N < 2 ^ 64
  pub sum : xor_w (xor_w a b) (shl_w w.G 1) ≡ add_w a b
  pub out : w.G / 2 ^ 63 ≡ (a + b) / 2 ^ 64
  pub plus_one : xor_w (add_w a b) (not_w (shl_w w.N 1)) ≡ (a + b + 1) % 2 ^ 64

module _ (a b : ℕ) (ha : a < 2 ^ 64) (hb : b < 2 ^ 64) where
  pub K : CarriesOut a b
  K = carries_out a b ha hb

  pub Z : Lowest-zero a b ha hb
  Z = lowest_of a b ha hb

  pub held_begin : Held K.carries Z.m 1 (begin a b)
  held_begin = record { carried = begun a b ha hb K; window = opened a b ha hb Z }

  -- the window is as wide as it need be for both
  pub ended : (k : ℕ) (w : Words) → Held K.carries Z.m k w → shl_w K.carries k ≡ 0 → 64 ≤ Z.m + k → Runs a b w
  ended k w h none wide =
      let e : w.G ≡ K.carries = carried_all K.carries k w.G w.N h.carried none in
      record {
        g_lt = h.carried.g_lt;
        n_lt = h.carried.n_lt;
        sum = ap (λ (x : ℕ). xor_w (xor_w a b) (shl_w x 1)) e ∙ K.sum;
        out = ap (λ (x : ℕ). x / 2 ^ 63) e ∙ K.out;
        plus_one =
            sum_plus_one a b ha hb w.N Z.m (record { zeros = h.window.zeros; ones = λ i l g u. h.window.ones i l (omega arith) u }) h.carried.n_lt Z.none Z.one;
      }

  pub whole_run_is : Runs a b (whole_run a b)
  unfolding whole_run
  whole_run_is =
      let c : ℕ = K.carries in
      let m : ℕ = Z.m in
      let w₀ : Words = begin a b in
      let h₁ = held_step c m 1 w₀ held_begin in
      let h₂ = held_step c m 2 (step 1 w₀) h₁ in
      let h₄ = held_step c m 4 (step 2 (step 1 w₀)) h₂ in
      let h₈ = held_step c m 8 (step 4 (step 2 (step 1 w₀))) h₄ in
      let h₁₆ = held_step c m 16 (step 8 (step 4 (step 2 (step 1 w₀)))) h₈ in
      let w : Words = step 16 (step 8 (step 4 (step 2 (step 1 w₀)))) in
      ended 64 (pair 32 32 w) (held_pair c m 32 32 w (omega arith) (omega arith) (halves w.G w.N) h₁₆) (shl_width c 0) (omega arith)
