-- What the steps of specs/CarryRun leave, in numbers: the carries of a sum and its run, over windows of k places that double. The carries K of a + b obey K = G ^ (NOT N AND (K
-- << k)): they are made within the window, G, or come through it, where N is 0. N has zeros below the lowest zero of a ^ b, and ones in the window from there on. Rests on bits'
-- Places, Xor and Shift.
use mathlib.Core.Path.{◌≡◌, sym, ap, ap₂, ◌∙◌}
use mathlib.Core.Logic.{inl, inr}
use Prim.Native.Nat.{ℕ, ◌+◌, ◌-◌, ◌/◌, ◌^◌, ◌≤◌, ◌<◌, min, max}
use native.Mathlib.Omega.{arith}
use lib.Bits.{differ}
use Rattle.bits.specs.Ops.{xor_w, and_w, not_w, shl_w}
use Rattle.bits.proofs.Digits.{or_digit, bit}
use Rattle.bits.proofs.Xor.{xor_assoc, xor_swap_r, xor_zero, xor_comm, and_zero, and_xor, and_xor_l, and_assoc, and_comm, not_xor}
use Rattle.bits.proofs.Shift.{shl_xor, shl_and, shl_shl}
use Rattle.bits.proofs.Bound.{xor_lt, and_lt, not_lt, shl_lt}
use Rattle.bits.proofs.Choice.{and_ones}
use Rattle.bits.proofs.Places.{bit_xor, bit_and, bit_shl, bit_shl_low, bit_not}
use Rattle.binary64.proofs.Cases.{lt_or_ge}

-- ---- a step
unfoldable pub carry_g : ℕ → ℕ → ℕ → ℕ
carry_g k G N = xor_w G (and_w (not_w N) (shl_w G k))

unfoldable pub carry_n : ℕ → ℕ → ℕ
carry_n k N = xor_w N (and_w (not_w N) (shl_w N k))

-- G's carries and N over windows of k places, for carries K
pub record Carried (K k G N : ℕ) : Type 0 where
  pub g_lt : G < 2 ^ 64
  pub n_lt : N < 2 ^ 64
  pub carries : K ≡ xor_w G (and_w (not_w N) (shl_w K k))

not_and : (N Y : ℕ) → N < 2 ^ 64 → Y < 2 ^ 64 → and_w (not_w N) Y ≡ xor_w (and_w N Y) Y
not_and N Y h_n h_y =
    ap (λ (x : ℕ). and_w x Y) (not_xor N h_n) ∙ and_xor_l N (2 ^ 64 - 1) Y ∙ ap (xor_w (and_w N Y)) (and_comm (2 ^ 64 - 1) Y ∙ and_ones Y h_y)

-- NOT of what a step leaves in N
not_step : (k N : ℕ) → N < 2 ^ 64 → not_w (carry_n k N) ≡ and_w (not_w N) (not_w (shl_w N k))
unfolding carry_n
not_step k N h =
    let p : ℕ = not_w N in
    let s : ℕ = shl_w N k in
    let hp : p < 2 ^ 64 = not_lt N in
    not_xor (xor_w N (and_w p s)) (xor_lt 64 N (and_w p s) h (and_lt 64 p s hp))
    ∙ xor_swap_r N (and_w p s) (2 ^ 64 - 1) ∙ ap (λ (x : ℕ). xor_w x (and_w p s)) (sym (not_xor N h))
    ∙ xor_comm p (and_w p s) ∙ ap (xor_w (and_w p s)) (sym (and_ones p hp)) ∙ sym (and_xor p s (2 ^ 64 - 1)) ∙ ap (and_w p) (sym (not_xor s (shl_lt N k)))

-- a place of N shifted is seen only through a word that is shifted as far
not_shifted : (k N Y : ℕ) → N < 2 ^ 64 → Y < 2 ^ 64 → and_w (not_w (shl_w N k)) (shl_w Y k) ≡ shl_w (and_w (not_w N) Y) k
not_shifted k N Y h_n h_y =
    not_and (shl_w N k) (shl_w Y k) (shl_lt N k) (shl_lt Y k)
    ∙ ap (λ (x : ℕ). xor_w x (shl_w Y k)) (sym (shl_and N Y k)) ∙ sym (shl_xor (and_w N Y) Y k) ∙ ap (λ (x : ℕ). shl_w x k) (sym (not_and N Y h_n h_y))

-- what comes through a window twice as wide
through : (K k N : ℕ) → N < 2 ^ 64 → and_w (not_w (carry_n k N)) (shl_w K (k + k)) ≡ and_w (not_w N) (shl_w (and_w (not_w N) (shl_w K k)) k)
through K k N h =
    ap₂ and_w (not_step k N h) (sym (shl_shl K k k)) ∙ and_assoc (not_w N) (not_w (shl_w N k)) (shl_w (shl_w K k) k)
    ∙ ap (and_w (not_w N)) (not_shifted k N (shl_w K k) h (shl_lt K k))

pub carried_step : (K k G N : ℕ) → Carried K k G N → Carried K (k + k) (carry_g k G N) (carry_n k N)
unfolding carry_g
carried_step K k G N c =
    let p : ℕ = not_w N in
    let came : ℕ = shl_w (and_w p (shl_w K k)) k in
    record {
      g_lt = xor_lt 64 G (and_w p (shl_w G k)) c.g_lt (and_lt 64 p (shl_w G k) (not_lt N));
      n_lt = unfold carry_n in xor_lt 64 N (and_w p (shl_w N k)) c.n_lt (and_lt 64 p (shl_w N k) (not_lt N));
      carries =
          c.carries ∙ ap (λ (x : ℕ). xor_w G (and_w p x)) (ap (λ (x : ℕ). shl_w x k) c.carries ∙ shl_xor G (and_w p (shl_w K k)) k)
          ∙ ap (xor_w G) (and_xor p (shl_w G k) came) ∙ sym (xor_assoc G (and_w p (shl_w G k)) (and_w p came))
          ∙ ap (xor_w (xor_w G (and_w p (shl_w G k)))) (sym (through K k N c.n_lt));
    }

-- nothing comes through a window that K << k does not reach
pub carried_all : (K k G N : ℕ) → Carried K k G N → shl_w K k ≡ 0 → G ≡ K
carried_all K k G N c e = sym (c.carries ∙ ap (λ (x : ℕ). xor_w G (and_w (not_w N) x)) e ∙ ap (xor_w G) (and_zero (not_w N)) ∙ xor_zero G)

-- ---- the run: zeros below m, and ones in the k places from there on
pub record Window (m k N : ℕ) : Type 0 where
  pub zeros : (i : ℕ) → i < m → i < 64 → bit N i ≡ 0
  pub ones : (i : ℕ) → m ≤ i → i < m + k → i < 64 → bit N i ≡ 1

step_bit : (k N i : ℕ) → N < 2 ^ 64 → i < 64 → bit (carry_n k N) i ≡ max (bit N i) (bit (shl_w N k) i)
unfolding carry_n
step_bit k N i h_n h =
    bit_xor N (and_w (not_w N) (shl_w N k)) i ∙ ap (differ (bit N i)) (bit_and (not_w N) (shl_w N k) i ∙ ap (λ (x : ℕ). min x (bit (shl_w N k) i)) (bit_not N i h_n h))
    ∙ or_digit (N / 2 ^ i) (shl_w N k / 2 ^ i)

pub window_step : (m k N : ℕ) → N < 2 ^ 64 → Window m k N → Window m (k + k) (carry_n k N)
window_step m k N h_n w = record { zeros = zeros; ones = ones }
  where
    moved : (i : ℕ) → k ≤ i → i < 64 → bit (shl_w N k) i ≡ bit N (i - k)
    moved i l h = let e : k + (i - k) ≡ i = omega arith in ap (bit (shl_w N k)) (sym e) ∙ bit_shl N k (i - k) (omega arith)

    zeros : (i : ℕ) → i < m → i < 64 → bit (carry_n k N) i ≡ 0
    zeros i l h =
        let z : bit (shl_w N k) i ≡ 0 =
        elim (lt_or_ge i k) [ inl g ↦ bit_shl_low N k i g | inr g ↦ moved i g h ∙ w.zeros (i - k) (omega arith) (omega arith) ] in
        step_bit k N i h_n h ∙ ap₂ max (w.zeros i l h) z

    ones : (i : ℕ) → m ≤ i → i < m + (k + k) → i < 64 → bit (carry_n k N) i ≡ 1
    ones i l g h =
        step_bit k N i h_n h
        ∙ elim (lt_or_ge i (m + k)) [
          | inl e ↦ omega (arith, w.ones i l e h)
          | inr e ↦ let b : bit (shl_w N k) i ≡ 1 = moved i (omega arith) h ∙ w.ones (i - k) (omega arith) (omega arith) (omega arith) in below (bit N i) (bit (shl_w N k) i) (omega arith) b
        ]
      where
        below : (x y : ℕ) → x < 2 → y ≡ 1 → max x y ≡ 1
        below x y h e = omega arith
