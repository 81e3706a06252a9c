-- The sum's plan, the end-around carry, with st the sticky bit: A + B + st where the signs agree, else |A - B - st|. A + NOT B has a carry out exactly where A > B, and then one more is A - B, unless
-- st is taken from it; where A ≤ B its complement is B - A. Rests on Ridden and AddWithRun.
use mathlib.Core.Path.{◌≡◌, refl, sym, ap, ap₂, ◌∙◌}
use Prim.Native.Nat.{ℕ, ◌+◌, ◌-◌, ◌*◌, ◌/◌, ◌%◌, ◌^◌, ◌≤◌, ◌<◌}
use native.Mathlib.Omega.{arith}
use Rattle.bits.specs.Ops.{xor_w, and_w, not_w, shl_w, shr_w, spread_w, add_w}
use Rattle.bits.proofs.Digits.{digit}
use Rattle.bits.proofs.Xor.{xor_zero, and_zero, not_xor, xor_self}
use Rattle.bits.proofs.Bound.{add_lt, not_lt}
use Rattle.bits.proofs.Choice.{and_ones}
use Rattle.bits.proofs.Sum.{xor_packed}
use Rattle.bits.proofs.Places.{shr_is, add_exact}
use Rattle.plans.proofs.Fields.{spread_is}
use Rattle.plans.proofs.Shifts.{not_is, add_is}
use Rattle.plans.proofs.Above.{Above}
use Rattle.plans.proofs.AddWithRun.{whole_run, Runs, whole_run_is}
use Rattle.plans.proofs.sum.Run.{Summed, summed_w, turned_w, around_w, around_sign}
use Rattle.plans.proofs.sum.Ridden.{lost, lost_lt, summed_is}

-- a bit s, spread
spread_bit : (w s : ℕ) → w ≡ s → s < 2 → spread_w w ≡ s * (2 ^ 64 - 1)
spread_bit w s e h = spread_is w ∙ ap (λ (x : ℕ). x % 2 * (2 ^ 64 - 1)) e ∙ ap (λ (x : ℕ). x * (2 ^ 64 - 1)) (small s h)
  where
    small : (s : ℕ) → s < 2 → s % 2 ≡ s
    small s h = omega arith

-- what is left: z, and the sign
pub record Around (a A B K xy z s : ℕ) : Type 0 where
  pub value : around_w A (turned_w B xy) (shr_w xy 63) (summed_w A (turned_w B xy) K (shr_w xy 63)) ≡ z
  pub sign : around_sign a (shr_w xy 63) (summed_w A (turned_w B xy) K (shr_w xy 63)) ≡ s

-- z from the sum S: the run's word v is added where d is 1, all bits are turned where t is, and f is put in place 0
abbrev left : ℕ → ℕ → ℕ → ℕ → ℕ → ℕ
left S v d t f = xor_w (xor_w (xor_w S (and_w v (d * (2 ^ 64 - 1)))) (t * (2 ^ 64 - 1))) f

-- the word that adds 1 to A + C
abbrev mask : ℕ → ℕ → ℕ
mask A C = not_w (shl_w (whole_run A C).N 1)

-- with C the second operand, s whether the signs differ, and c the carry out
module _ (a A B K xy C s c t d f : ℕ) (h_a : A < 2 ^ 64) (t_a : Above 10 A) (h_k : K < 2 ^ 16) (h_c : C < 2 ^ 64) (hs : s < 2) (ht : t < 2) (hd : d < 2)
    (es : xy / 2 ^ 63 ≡ s) (e_c : xor_w B (s * (2 ^ 64 - 1)) ≡ C) (ec : (A + C) / 2 ^ 64 ≡ c) (et : xor_w s c ≡ t) (ed : xor_w c (lost K * s) ≡ d) (ef : xor_w (lost K) (lost K * s) ≡ f) where
  abbrev ran : Summed
  ran = record { words = whole_run A C; sticky = lost K; borrowed = lost K * s }

  u_is : shr_w xy 63 ≡ s
  u_is = shr_is xy 63 ∙ es

  C_is : turned_w B xy ≡ C
  unfolding turned_w
  C_is = ap (xor_w B) (spread_bit (shr_w xy 63) s u_is hs) ∙ e_c

  summed : summed_w A (turned_w B xy) K (shr_w xy 63) ≡ ran
  summed = ap₂ (λ (x y : ℕ). summed_w A x K y) C_is u_is ∙ summed_is A C K s t_a h_k hs

  runs : Runs A C (whole_run A C)
  runs = whole_run_is A C h_a h_c

  carry : shr_w (whole_run A C).G 63 ≡ c
  carry = shr_is (whole_run A C).G 63 ∙ runs.out ∙ ec

  sign_is : around_sign a s ran ≡ xor_w (a / 2 ^ 63) t
  unfolding around_sign
  sign_is = ap₂ xor_w (shr_is a 63) (ap (xor_w s) carry ∙ et)

  value_is : around_w A C s ran ≡ left (add_w A C) (mask A C) d t f
  unfolding around_w
  value_is =
      let G : ℕ = (whole_run A C).G in
      ap₂ (λ (x y : ℕ). xor_w (xor_w (xor_w (xor_w (xor_w A C) (shl_w G 1)) (and_w (mask A C) x)) y) (xor_w (lost K) (lost K * s)))
      (spread_bit (xor_w (shr_w G 63) (lost K * s)) d (ap (λ (x : ℕ). xor_w x (lost K * s)) carry ∙ ed) hd) (spread_bit (xor_w s (shr_w G 63)) t (ap (xor_w s) carry ∙ et) ht)
      ∙ ap₂ (λ (x y : ℕ). left x (mask A C) d t y) runs.sum ef

  around_is : Around a A B K xy (left (add_w A C) (mask A C) d t f) (xor_w (a / 2 ^ 63) t)
  around_is =
      record {
        value = ap₂ (λ (x y : ℕ). around_w A x y (summed_w A (turned_w B xy) K (shr_w xy 63))) C_is u_is ∙ ap (around_w A C s) summed ∙ value_is;
        sign = ap₂ (around_sign a) u_is summed ∙ sign_is;
      }

-- with no run added
left_none : (S v t f : ℕ) → left S v 0 t f ≡ xor_w (xor_w S (t * (2 ^ 64 - 1))) f
left_none S v t f = ap (λ (x : ℕ). xor_w (xor_w x (t * (2 ^ 64 - 1))) f) (ap (xor_w S) (and_zero v) ∙ xor_zero S)

module _ (a A B K xy : ℕ) (h_a : A < 2 ^ 63) (t_a : A % 2 ^ 10 ≡ 0) (h_b : B ≤ 2 ^ 63) (h_k : K < 2 ^ 16) where
  h_a64 : A < 2 ^ 64
  h_a64 = omega arith

  pub around_like : B % 2 ≡ 0 → xy / 2 ^ 63 ≡ 0 → Around a A B K xy (A + B + lost K) (a / 2 ^ 63)
  around_like b e =
      let st : ℕ = lost K in
      let l : B < 2 ^ 64 = omega arith in
      let c : (A + B) / 2 ^ 64 ≡ 0 = omega arith in
      let z : lost K * 0 ≡ 0 = omega arith in
      let r = around_is a A B K xy B 0 0 0 0 st h_a64 t_a h_k l (omega arith) (omega arith) (omega arith) e (xor_zero B) c (xor_self 0) (ap (xor_w 0) z ∙ xor_self 0) (ap (xor_w st) z ∙ xor_zero st) in
      let even : A + B ≡ (A + B) / 2 * 2 ^ 1 = omega arith in
      record {
        value =
            r.value ∙ left_none (add_w A B) (mask A B) 0 st ∙ ap (λ (x : ℕ). xor_w x st) (xor_zero (add_w A B) ∙ add_exact A B (omega arith) ∙ even)
            ∙ xor_packed ((A + B) / 2) 1 st (lost_lt K) ∙ ap (λ (x : ℕ). x + st) (sym even);
        sign = r.sign ∙ xor_zero (a / 2 ^ 63);
      }

  module _ (e : xy / 2 ^ 63 ≡ 1) where
    N : ℕ
    N = (2 ^ 64 - 1) - B

    N_lt : N < 2 ^ 64
    unfolding N
    N_lt = omega arith

    N_is : xor_w B (1 * (2 ^ 64 - 1)) ≡ N
    unfolding N
    N_is = sym (not_xor B (omega arith)) ∙ not_is B

    once : lost K * 1 ≡ lost K
    once = omega arith

    pub around_more : B < A → Around a A B K xy (A - B - lost K) (a / 2 ^ 63)
    unfolding N
    around_more h =
        let st : ℕ = lost K in
        let c : (A + N) / 2 ^ 64 ≡ 1 = omega arith in
        let r =
        around_is a A B K xy N 1 1 0 (1 - st) 0 h_a64 t_a h_k N_lt (omega arith) (omega arith) (omega arith) e N_is c (xor_self 1) (ap (xor_w 1) once ∙ opposite st (lost_lt K))
        (ap (xor_w st) once ∙ xor_self st) in
        record { value = r.value ∙ taken st (lost_lt K); sign = r.sign ∙ xor_zero (a / 2 ^ 63) }
      where
        opposite : (b : ℕ) → b < 2 → xor_w 1 b ≡ 1 - b
        opposite b h = unfold xor_w in digit (λ b. xor_w 1 b ≡ 1 - b) refl refl b h

        -- st less than with the run
        taken : (b : ℕ) → b < 2 → left (add_w A N) (mask A N) (1 - b) 0 0 ≡ A - B - b
        taken b l =
            let S : ℕ = add_w A N in
            let v : ℕ = mask A N in
            let plain : (x : ℕ) → xor_w (xor_w x 0) 0 ≡ x = λ x. xor_zero (xor_w x 0) ∙ xor_zero x in
            digit (λ b. left S v (1 - b) 0 0 ≡ A - B - b)
            (plain (xor_w S (and_w v (2 ^ 64 - 1))) ∙ ap (xor_w S) (and_ones v (not_lt (shl_w (whole_run A N).N 1))) ∙ (whole_run_is A N h_a64 N_lt).plus_one ∙ omega arith)
            (left_none S v 0 0 ∙ plain S ∙ add_is A N ∙ omega arith) b l

    pub around_less : A ≤ B → lost K ≡ 0 → Around a A B K xy (B - A) (xor_w (a / 2 ^ 63) 1)
    unfolding N
    around_less h n =
        let S : ℕ = add_w A N in
        let c : (A + N) / 2 ^ 64 ≡ 0 = omega arith in
        let z : lost K * 1 ≡ 0 = once ∙ n in
        let r =
        around_is a A B K xy N 1 0 1 0 0 h_a64 t_a h_k N_lt (omega arith) (omega arith) (omega arith) e N_is c (xor_zero 1) (ap (xor_w 0) z ∙ xor_self 0) (ap₂ xor_w n z ∙ xor_self 0) in
        record {
          value =
              r.value ∙ left_none S (mask A N) 1 0 ∙ xor_zero (xor_w S (2 ^ 64 - 1)) ∙ sym (not_xor S (add_lt A N)) ∙ not_is S
              ∙ ap (λ (x : ℕ). (2 ^ 64 - 1) - x) (add_is A N) ∙ omega arith;
          sign = r.sign;
        }
