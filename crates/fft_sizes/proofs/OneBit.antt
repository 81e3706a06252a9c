-- The powers of two up to 1,024 are the numbers up to there of which one bit is set. Rests on lib.Count's `ones` and fft_numbers's Powers.
use mathlib.Core.Path.{◌≡◌, refl, sym, ap, subst, ◌∙◌}
use mathlib.Core.Bool.{Bool, true, false, ◌&&◌}
use Prim.Native.Nat.{ℕ, zero, suc, ◌+◌, ◌*◌, ◌/◌, ◌%◌, ◌^◌, ◌≤◌}
use native.Mathlib.Nat.{pow-succ'}
use native.Mathlib.Omega.{arith}
use native.Mathlib.Decide.{ℕ_discrete}
use lib.Dec.{eqb, leb}
use lib.Pow.{pow_pos, pow_mono}
use lib.Count.{ones, ones_in, ones_step, ones_cat}
use borrow.Author.Tests.{eq-eqb, eqb-true, le-leb, leb-true}
use Rattle.std.proofs.lemmas.Nat.{zero_from_ones}
use Rattle.fft_numbers.specs.Layer.{is_power_of_two}
use Rattle.fft_numbers.proofs.Powers.{both, go_on, a_power, power_found}

-- a power has one bit
ones_of_one : ones 1 + ones 0 ≡ 1
unfolding ones ones_in
ones_of_one = refl

one_bit : (e : ℕ) → ones (2 ^ e) ≡ 1
one_bit e =
    let z : 2 ^ e ≡ 1 * 2 ^ e + 0 = omega arith in
    ap ones z ∙ ones_cat e 1 0 (pow_pos e) ∙ ones_of_one

-- and what has one bit is a power
no_bit : ones 0 ≡ 0
unfolding ones ones_in
no_bit = refl

halved : (d k : ℕ) → k ≤ suc d → ones k ≡ 1 → ((m : ℕ) → m ≤ d → ones m ≡ 1 → (e : ℕ) × (m ≡ 2 ^ e)) → (e : ℕ) × (k ≡ 2 ^ e)
halved d k l h more = by (ℕ_discrete (k % 2) 0)
  where
    by : Dec (k % 2 ≡ 0) → (e : ℕ) × (k ≡ 2 ^ e)
    by (yes q) =
        let r : ones (k / 2) ≡ 1 = omega (arith, ones_step k) in
        let p = more (k / 2) (omega arith) r in
        (suc p.0, omega (arith, p.1, pow-succ' 2 p.0))
    by (no q) =
        let r : ones (k / 2) ≡ 0 = omega (arith, ones_step k) in
        let z : k / 2 ≡ 0 = zero_from_ones (k / 2) r in
        (0, omega arith)

power_of : (d k : ℕ) → k ≤ d → ones k ≡ 1 → (e : ℕ) × (k ≡ 2 ^ e)
power_of zero k l h =
    let z : k ≡ 0 = omega arith in
    let e : ones k ≡ 0 = ap ones z ∙ no_bit in
    absurd (omega arith)
power_of (suc d) k l h = halved d k l h (power_of d)

same : (p q : Bool) → (p ≡ true → q ≡ true) → (q ≡ true → p ≡ true) → p ≡ q
same true q f g = sym (f refl)
same false true f g = g refl
same false false f g = refl

pub one_bit_is : (k : ℕ) → leb k 1024 && eqb (ones k) 1 ≡ is_power_of_two k
one_bit_is k = same _ _ there back
  where
    there : leb k 1024 && eqb (ones k) 1 ≡ true → is_power_of_two k ≡ true
    there e =
        let b = both (leb k 1024) (eqb (ones k) 1) e in
        let l = leb-true k 1024 b.0 in
        let p = power_of k k (omega arith) (eqb-true (ones k) 1 b.1) in
        subst (λ (x : ℕ). is_power_of_two x ≡ true) (sym p.1) (power_found p.0 (omega (arith, p.1)))

    back : is_power_of_two k ≡ true → leb k 1024 && eqb (ones k) 1 ≡ true
    back e =
        let p = a_power k 0 11 e in
        let m : 2 ^ p.0 ≤ 2 ^ 10 = pow_mono {i = p.0} {j = 10} (omega (arith, p.2)) in
        let o : ones k ≡ 1 = ap ones p.1 ∙ one_bit p.0 in
        sym (go_on (le-leb k 1024 (omega (arith, p.1))) (sym (eq-eqb (ones k) 1 o)))

pub one_bit_below : (k : ℕ) → k ≤ 1024 → eqb (ones k) 1 ≡ is_power_of_two k
one_bit_below k h = sym (ap (λ (b : Bool). b && eqb (ones k) 1) (le-leb k 1024 h)) ∙ one_bit_is k
