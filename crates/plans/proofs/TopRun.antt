-- The carries and the run of a sum of two numbers of 16 bits, in the top places of words: four steps with one AND each. With ones below the second number this is a sum of two words, whose run
-- comes to the top places. Rests on AddWithRun and Above.
use mathlib.Core.Path.{◌≡◌, refl, sym, ap, ap₂, ◌∙◌, subst}
use mathlib.Core.Logic.{inl, inr}
use Prim.Native.Nat.{ℕ, ◌+◌, ◌-◌, ◌*◌, ◌/◌, ◌%◌, ◌^◌, ◌≤◌, ◌<◌}
use native.Mathlib.Nat.{add-zero}
use native.Mathlib.Omega.{arith}
use lib.Pow as Pow
use Rattle.bits.specs.Ops.{xor_w, and_w, not_w, shl_w, shr_w, add_w}
use Rattle.bits.proofs.Digits.{bit}
use Rattle.bits.proofs.Xor.{xor_self, xor_zero_l, xor_cancel, and_zero_l, and_comm, xor_cancel_r, xor_swap_r}
use Rattle.bits.proofs.Bound.{xor_lt, shl_lt}
use Rattle.bits.proofs.Sum.{xor_packed}
use Rattle.bits.proofs.Adder.{CarriesOut}
use Rattle.bits.proofs.Places.{shr_is, shl_exact, and_block, xor_block, bit_mod, bit_above}
use Rattle.binary64.proofs.Cases.{lt_or_ge}
use Rattle.plans.proofs.Shifts.{not_is, add_is, shl_keeps}
use Rattle.plans.proofs.Above.{Above, above_is, xor_low, above_xor, above_and, above_shl}
use Rattle.plans.proofs.CarryRun.{carry_g, carry_n}
use Rattle.plans.proofs.AddWithRun.{Paired, pair_G, pair_N, Lowest-zero, Words, begin, step, pair, Held, held_pair, held_begin, K, Z, ended, Runs}

-- ---- four steps with one AND each
unfoldable pub top_run : Words → Words
top_run w = pair 48 8 (pair 48 4 (pair 48 2 (pair 48 1 w)))

-- only top places
abbrev pub Top : ℕ → Type 0
Top = Above 48

pub top_is : (w : ℕ) → Top w → w ≡ w / 2 ^ 48 * 2 ^ 48
top_is = above_is 48

pub top_xor : (u w : ℕ) → Top u → Top w → Top (xor_w u w)
top_xor = above_xor 48

pub top_and : (u w : ℕ) → Top w → Top (and_w u w)
top_and = above_and 48

pub top_shl : (w k : ℕ) → Top w → Top (shl_w w k)
top_shl w k h = above_shl 16 48 w k refl h

pub top_twice : (w : ℕ) → Top w → shl_w w 1 ≡ w / 2 ^ 48 * 2 % 2 ^ 16 * 2 ^ 48
top_twice w h = shl_keeps 63 1 w refl ∙ doubled w (w / 2 ^ 48) (top_is w h)
  where
    doubled : (n q : ℕ) → n ≡ q * 2 ^ 48 → n % 2 ^ 63 * 2 ^ 1 ≡ q * 2 % 2 ^ 16 * 2 ^ 48
    doubled n q e = omega arith

record Tops (w : Words) : Type 0 where
  G_top : Top w.G
  N_top : Top w.N

tops_step : (k : ℕ) (w : Words) → Tops w → Tops (step k w)
unfolding carry_g carry_n
tops_step k w t =
    record {
      G_top = top_xor w.G (and_w (not_w w.N) (shl_w w.G k)) t.G_top (top_and (not_w w.N) (shl_w w.G k) (top_shl w.G k t.G_top));
      N_top = top_xor w.N (and_w (not_w w.N) (shl_w w.N k)) t.N_top (top_and (not_w w.N) (shl_w w.N k) (top_shl w.N k t.N_top));
    }

tops_paired : (k : ℕ) (w : Words) → Tops w → Paired 48 k w.G w.N
tops_paired k w t =
    record {
      γ = shl_w w.G k / 2 ^ 48;
      ν = shl_w w.N k / 2 ^ 48;
      γ_lt = Pow.shr_lt 16 48 (shl_lt w.G k);
      ν_lt = Pow.shr_lt 16 48 (shl_lt w.N k);
      γ_is = top_is (shl_w w.G k) (top_shl w.G k t.G_top);
      ν_is = top_is (shl_w w.N k) (top_shl w.N k t.N_top);
    }

-- with what holds of the words besides
record HeldTop (K m k : ℕ) (w : Words) : Type 0 where
  held : Held K m k w
  tops : Tops w

held_top : (K m k : ℕ) (w : Words) → HeldTop K m k w → HeldTop K m (k + k) (pair 48 k w)
held_top K m k w h =
    let q = tops_paired k w h.tops in
    let t = tops_step k w h.tops in
    record {
      held = held_pair K m 48 k w (omega arith) (omega arith) q h.held;
      tops =
          record {
            G_top = rw (pair_G 48 k w.G w.N (omega arith) (omega arith) q) t.G_top;
            N_top = rw (pair_N 48 k w.G w.N (omega arith) (omega arith) q) t.N_top;
          };
    }

-- the number v with ones below it
abbrev above : ℕ → ℕ
above v = v * 2 ^ 48 + (2 ^ 48 - 1)

-- ---- the numbers u and v
module _ (u v : ℕ) (hu : u < 2 ^ 16) (hv : v < 2 ^ 16) where
  abbrev a : ℕ
  a = u * 2 ^ 48

  abbrev b : ℕ
  b = above v

  ha : a < 2 ^ 64
  ha = omega arith

  hb : b < 2 ^ 64
  hb = omega arith

  abbrev K16 : CarriesOut a b
  K16 = K a b ha hb

  abbrev Z16 : Lowest-zero a b ha hb
  Z16 = Z a b ha hb

  -- a ^ b has ones below the top places, and a + b too: no carry comes out of there
  H_low : xor_w a b ≡ xor_w u v * 2 ^ 48 + (2 ^ 48 - 1)
  H_low =
      let e : a ≡ u * 2 ^ 48 + 0 = sym (add-zero (u * 2 ^ 48)) in
      ap (λ (x : ℕ). xor_w x b) e ∙ xor_block 48 u v 0 (2 ^ 48 - 1) (omega arith) (omega arith) ∙ ap (λ (x : ℕ). xor_w u v * 2 ^ 48 + x) (xor_zero_l (2 ^ 48 - 1))

  N_low : Top (not_w (xor_w a b))
  N_low =
      let h : xor_w u v < 2 ^ 16 = xor_lt 16 u v hu hv in
      ap (λ (x : ℕ). x % 2 ^ 48) (not_is (xor_w a b) ∙ ap (λ (x : ℕ). (2 ^ 64 - 1) - x) H_low) ∙ omega arith

  sum_low : add_w a b % 2 ^ 48 ≡ 2 ^ 48 - 1
  sum_low = ap (λ (x : ℕ). x % 2 ^ 48) (add_is a b) ∙ omega arith

  up_top : Top (shl_w K16.carries 1)
  up_top =
      let e : shl_w K16.carries 1 ≡ xor_w (xor_w a b) (add_w a b) = sym (xor_cancel (xor_w a b) (shl_w K16.carries 1)) ∙ ap (xor_w (xor_w a b)) K16.sum in
      let l : xor_w a b % 2 ^ 48 ≡ 2 ^ 48 - 1 = ap (λ (x : ℕ). x % 2 ^ 48) H_low ∙ omega arith in
      ap (λ (x : ℕ). x % 2 ^ 48) e ∙ xor_low 48 (xor_w a b) (add_w a b) (2 ^ 48 - 1) (2 ^ 48 - 1) l sum_low ∙ xor_self (2 ^ 48 - 1)

  K_top : Top K16.carries
  K_top = ap (λ (x : ℕ). x % 2 ^ 48) K16.made ∙ top_xor (and_w a b) (and_w (xor_w a b) (shl_w K16.carries 1)) made_top (top_and (xor_w a b) (shl_w K16.carries 1) up_top)
    where
      made_top : Top (and_w a b)
      made_top = ap (λ (x : ℕ). x % 2 ^ 48) (and_comm a b) ∙ top_and b a (omega arith)

  K_gone : shl_w K16.carries 16 ≡ 0
  K_gone = shl_keeps 48 16 K16.carries refl ∙ ap (λ (x : ℕ). x * 2 ^ 16) K_top

  -- the lowest zero is in the top places
  high_zero : 48 ≤ Z16.m
  high_zero =
      elim (lt_or_ge Z16.m 48) [
        | inl l ↦
            let z : bit (not_w (xor_w a b)) Z16.m ≡ 0 =
            sym (bit_mod (not_w (xor_w a b)) 48 Z16.m l) ∙ ap (λ (x : ℕ). bit x Z16.m) N_low ∙ bit_above 0 0 Z16.m (omega arith) (omega arith) in
            absurd (omega (arith, Z16.one (omega arith)))
        | inr l ↦ l
      ]

  held_first : HeldTop K16.carries Z16.m 1 (begin a b)
  held_first = record { held = held_begin a b ha hb; tops = record { G_top = ap (λ (x : ℕ). x % 2 ^ 48) (and_comm a b) ∙ top_and b a (omega arith); N_top = N_low } }

  last : HeldTop K16.carries Z16.m 16 (top_run (begin a b))
  unfolding top_run
  last =
      let c : ℕ = K16.carries in
      let m : ℕ = Z16.m in
      let w₀ : Words = begin a b in
      held_top c m 8 (pair 48 4 (pair 48 2 (pair 48 1 w₀)))
      (held_top c m 4 (pair 48 2 (pair 48 1 w₀)) (held_top c m 2 (pair 48 1 w₀) (held_top c m 1 w₀ held_first)))

  runs : Runs a b (top_run (begin a b))
  runs = ended a b ha hb 16 (top_run (begin a b)) last.held K_gone (let h = high_zero in omega arith)

  sum_is : add_w a b ≡ (u + v) % 2 ^ 16 * 2 ^ 48 + (2 ^ 48 - 1)
  sum_is = add_is a b ∙ omega arith

-- ---- what the four steps leave, in numbers, from the words as plans have them
unfoldable pub top_start : ℕ → ℕ → Words
top_start p q = record { G = and_w p q; N = shl_w (shr_w (not_w (xor_w p q)) 48) 48 }

pub record TopRuns (u v : ℕ) (w : Words) : Type 0 where
  pub g_lt : w.G < 2 ^ 64
  pub n_lt : w.N < 2 ^ 64
  pub out : w.G / 2 ^ 63 ≡ (u + v) / 2 ^ 16
  pub sum : xor_w (xor_w (u * 2 ^ 48) (v * 2 ^ 48)) (shl_w w.G 1) ≡ (u + v) % 2 ^ 16 * 2 ^ 48
  pub top : w.N ≡ w.N / 2 ^ 48 * 2 ^ 48
  pub plus_one : xor_w ((u + v) % 2 ^ 16) ((2 ^ 16 - 1) - w.N / 2 ^ 48 * 2 % 2 ^ 16) ≡ (u + v + 1) % 2 ^ 16

module _ (u v : ℕ) (hu : u < 2 ^ 16) (hv : v < 2 ^ 16) where
  start_G : and_w (u * 2 ^ 48) (v * 2 ^ 48) ≡ and_w (u * 2 ^ 48) (above v)
  start_G =
      let e : (x : ℕ) → x * 2 ^ 48 ≡ x * 2 ^ 48 + 0 = λ x. sym (add-zero (x * 2 ^ 48)) in
      ap₂ and_w (e u) (e v) ∙ and_block 48 u v 0 0 (omega arith) (omega arith) ∙ ap (λ (x : ℕ). and_w u v * 2 ^ 48 + x) (and_zero_l 0 ∙ sym (and_zero_l (2 ^ 48 - 1)))
      ∙ sym (and_block 48 u v 0 (2 ^ 48 - 1) (omega arith) (omega arith)) ∙ ap (λ (x : ℕ). and_w x (above v)) (sym (e u))

  pub plain_xor : xor_w (u * 2 ^ 48) (v * 2 ^ 48) ≡ xor_w u v * 2 ^ 48
  plain_xor =
      let e : (x : ℕ) → x * 2 ^ 48 ≡ x * 2 ^ 48 + 0 = λ x. sym (add-zero (x * 2 ^ 48)) in
      ap₂ xor_w (e u) (e v) ∙ xor_block 48 u v 0 0 (omega arith) (omega arith) ∙ ap (λ (x : ℕ). xor_w u v * 2 ^ 48 + x) (xor_self 0) ∙ add-zero (xor_w u v * 2 ^ 48)

  start_N : shl_w (shr_w (not_w (xor_w (u * 2 ^ 48) (v * 2 ^ 48))) 48) 48 ≡ not_w (xor_w (u * 2 ^ 48) (above v))
  start_N =
      let h : xor_w u v < 2 ^ 16 = xor_lt 16 u v hu hv in
      let c : shr_w (not_w (xor_w (u * 2 ^ 48) (v * 2 ^ 48))) 48 ≡ (2 ^ 16 - 1) - xor_w u v =
      shr_is (not_w (xor_w (u * 2 ^ 48) (v * 2 ^ 48))) 48 ∙ ap (λ (x : ℕ). x / 2 ^ 48) (not_is (xor_w (u * 2 ^ 48) (v * 2 ^ 48)) ∙ ap (λ (x : ℕ). (2 ^ 64 - 1) - x) plain_xor) ∙ omega arith in
      ap (λ (x : ℕ). shl_w x 48) c ∙ shl_exact 16 48 ((2 ^ 16 - 1) - xor_w u v) (omega arith) (omega arith)
      ∙ sym (not_is (xor_w (u * 2 ^ 48) (above v)) ∙ ap (λ (x : ℕ). (2 ^ 64 - 1) - x) (H_low u v hu hv) ∙ omega arith)

  start_is : top_start (u * 2 ^ 48) (v * 2 ^ 48) ≡ begin (u * 2 ^ 48) (above v)
  unfolding top_start
  start_is = ap₂ (λ (g n : ℕ). record { G = g; N = n }) start_G start_N

  w : Words
  w = top_run (top_start (u * 2 ^ 48) (v * 2 ^ 48))

  w_is : w ≡ top_run (begin (u * 2 ^ 48) (above v))
  unfolding w
  w_is = ap top_run start_is

  ran : Runs (u * 2 ^ 48) (above v) w
  ran = subst (Runs (u * 2 ^ 48) (above v)) (sym w_is) (runs u v hu hv)

  N_top' : Top w.N
  N_top' = ap (λ (x : Words). x.N % 2 ^ 48) w_is ∙ (last u v hu hv).tops.N_top

  pub top_runs : TopRuns u v (top_run (top_start (u * 2 ^ 48) (v * 2 ^ 48)))
  unfolding w
  top_runs =
      record {
        g_lt = ran.g_lt;
        n_lt = ran.n_lt;
        out = ran.out ∙ omega arith;
        sum = sums;
        top = top_is w.N N_top';
        plus_one = raised;
      }
    where
      sums : xor_w (xor_w (u * 2 ^ 48) (v * 2 ^ 48)) (shl_w w.G 1) ≡ (u + v) % 2 ^ 16 * 2 ^ 48
      sums =
          let X : ℕ = xor_w u v * 2 ^ 48 in
          let Y : ℕ = shl_w w.G 1 in
          let e : xor_w (xor_w X Y) (2 ^ 48 - 1) ≡ xor_w ((u + v) % 2 ^ 16 * 2 ^ 48) (2 ^ 48 - 1) =
          xor_swap_r X Y (2 ^ 48 - 1) ∙ ap (λ (x : ℕ). xor_w x Y) (xor_packed (xor_w u v) 48 (2 ^ 48 - 1) (omega arith) ∙ sym (H_low u v hu hv)) ∙ ran.sum ∙ sum_is u v hu hv
          ∙ sym (xor_packed ((u + v) % 2 ^ 16) 48 (2 ^ 48 - 1) (omega arith)) in
          ap (λ (x : ℕ). xor_w x Y) plain_xor ∙ sym (xor_cancel_r (xor_w X Y) (2 ^ 48 - 1)) ∙ ap (λ (x : ℕ). xor_w x (2 ^ 48 - 1)) e ∙ xor_cancel_r ((u + v) % 2 ^ 16 * 2 ^ 48) (2 ^ 48 - 1)

      raised : xor_w ((u + v) % 2 ^ 16) ((2 ^ 16 - 1) - w.N / 2 ^ 48 * 2 % 2 ^ 16) ≡ (u + v + 1) % 2 ^ 16
      raised =
          let S : ℕ = (u + v) % 2 ^ 16 in
          let M : ℕ = (2 ^ 16 - 1) - w.N / 2 ^ 48 * 2 % 2 ^ 16 in
          let sh : shl_w w.N 1 ≡ w.N / 2 ^ 48 * 2 % 2 ^ 16 * 2 ^ 48 = top_twice w.N N_top' in
          let m : not_w (shl_w w.N 1) ≡ M * 2 ^ 48 + (2 ^ 48 - 1) = not_is (shl_w w.N 1) ∙ ap (λ (x : ℕ). (2 ^ 64 - 1) - x) sh ∙ opposite (w.N / 2 ^ 48 * 2) in
          let e : xor_w S M * 2 ^ 48 + 0 ≡ (u * 2 ^ 48 + above v + 1) % 2 ^ 64 =
          ap (λ (x : ℕ). xor_w S M * 2 ^ 48 + x) (sym (xor_self (2 ^ 48 - 1))) ∙ sym (xor_block 48 S M (2 ^ 48 - 1) (2 ^ 48 - 1) (omega arith) (omega arith))
          ∙ ap₂ xor_w (sym (sum_is u v hu hv)) (sym m) ∙ ran.plus_one in
          back (xor_w S M) u v e
        where
          opposite : (q : ℕ) → (2 ^ 64 - 1) - q % 2 ^ 16 * 2 ^ 48 ≡ ((2 ^ 16 - 1) - q % 2 ^ 16) * 2 ^ 48 + (2 ^ 48 - 1)
          opposite q = omega arith

          scaled : (t : ℕ) → t * 2 ^ 48 % 2 ^ 64 ≡ t % 2 ^ 16 * 2 ^ 48
          scaled t = omega arith

          back : (z u v : ℕ) → z * 2 ^ 48 + 0 ≡ (u * 2 ^ 48 + above v + 1) % 2 ^ 64 → z ≡ (u + v + 1) % 2 ^ 16
          back z u v e =
              let t : u * 2 ^ 48 + above v + 1 ≡ (u + v + 1) * 2 ^ 48 = omega arith in
              let f : z * 2 ^ 48 + 0 ≡ (u + v + 1) % 2 ^ 16 * 2 ^ 48 = e ∙ ap (λ (x : ℕ). x % 2 ^ 64) t ∙ scaled (u + v + 1) in
              omega arith
