-- Rounding to nearest even, and the sticky bit that keeps it: `jam j N` drops j low bits of N and notes below what is left whether one of them was set.
-- Rests on Cases and lib.Ieee's `closest`.
use mathlib.Core.Path.{◌≡◌, refl, sym, ap, ap₂, ◌∙◌, subst}
use mathlib.Core.Logic.{inl, inr}
use Prim.Native.Nat.{ℕ, zero, suc, ◌+◌, ◌-◌, ◌*◌, ◌/◌, ◌%◌, ◌^◌, ◌≤◌, ◌<◌, min, compare}
use native.Mathlib.Nat.{le_trans, le_of_eq, mod-lt, div-add-mod', div-eq_of_lt, mod-eq_of_lt, mul-le-mul_right, mul_comm, zero-mul, eq-or-lt_of_le, le-div_iff_mul-le, pow-suc}
use native.Mathlib.Omega.{arith}
use lib.Arith.{digits_div, digits_mod, digits_lt}
use lib.Pow.{pow_pos, pow-add, shr_lt}
use lib.Ieee.{nearest}
use lib.Ieee.Nearest.{closest}
use Rattle.binary64.specs.inner.Steps.{round_ne, jam}
use Rattle.binary64.proofs.Cases.{agree, lt_or_ge}

pub jam_is : (j N : ℕ) → jam j N ≡ 2 * (N / 2 ^ j) + min (N % 2 ^ j) 1
unfolding jam
jam_is j N = refl

pub closest_by : (w r b : ℕ) → r < b → closest (w * b + r) b ≡ nearest w (compare (r * 2) b)
closest_by w r b h = ap₂ (λ (x y : ℕ). nearest x (compare (y * 2) b)) (digits_div w h) (digits_mod w h)

-- R whole parts of P and a rest r, against U of them: the sticky bit of r serves
core : (R r P U : ℕ) → r < P → compare ((R * P + r) * 2) (2 * U * P) ≡ compare ((2 * R + min r 1) * 2) (2 * (2 * U))
core R r P U h = agree ((R * P + r) * 2) (2 * U * P) ((2 * R + min r 1) * 2) (2 * (2 * U)) l e g
  where
    below : R < U → R * P + P ≤ U * P
    below k = let m = mul-le-mul_right P k in omega arith

    above : U ≤ R → U * P ≤ R * P
    above k = mul-le-mul_right P k

    l : (R * P + r) * 2 < 2 * U * P → (2 * R + min r 1) * 2 < 2 * (2 * U)
    l k = elim (lt_or_ge R U) [ inl x ↦ omega arith | inr x ↦ let m = above x in absurd (omega arith) ]

    e : (R * P + r) * 2 ≡ 2 * U * P → (2 * R + min r 1) * 2 ≡ 2 * (2 * U)
    e k =
        elim (lt_or_ge R U) [
          | inl x ↦ let m = below x in absurd (omega arith)
          | inr x ↦
              elim (eq-or-lt_of_le x) [
                | inl q ↦ let m : U * P ≡ R * P = ap (λ (z : ℕ). z * P) q in omega arith
                | inr q ↦ let m = mul-le-mul_right P q in absurd (omega arith)
              ]
        ]

    g : 2 * U * P < (R * P + r) * 2 → 2 * (2 * U) < (2 * R + min r 1) * 2
    g k =
        elim (lt_or_ge R U) [
          | inl x ↦ let m = below x in absurd (omega arith)
          | inr x ↦
              elim (eq-or-lt_of_le x) [
                | inl q ↦ let m : U * P ≡ R * P = ap (λ (z : ℕ). z * P) q in omega arith
                | inr q ↦ omega arith
              ]
        ]

-- in whole numbers: N = (Q · 2U + R) · P + r
jam_core : (Q R r P U : ℕ) → r < P → R < 2 * U
    → closest ((Q * (2 * U) + R) * P + r) (2 * U * P) ≡ closest (2 * (Q * (2 * U) + R) + min r 1) (2 * (2 * U))
jam_core Q R r P U hr hR =
    let e₁ : (Q * (2 * U) + R) * P + r ≡ Q * (2 * U * P) + (R * P + r) = omega arith in
    let e₂ : 2 * (Q * (2 * U) + R) + min r 1 ≡ Q * (2 * (2 * U)) + (2 * R + min r 1) = omega arith in
    let h₁ : R * P + r < 2 * U * P = digits_lt hR hr in
    let h₂ : 2 * R + min r 1 < 2 * (2 * U) = omega arith in
    ap (λ (z : ℕ). closest z (2 * U * P)) e₁ ∙ closest_by Q (R * P + r) (2 * U * P) h₁ ∙ ap (nearest Q) (core R r P U hr)
    ∙ sym (ap (λ (z : ℕ). closest z (2 * (2 * U))) e₂ ∙ closest_by Q (2 * R + min r 1) (2 * (2 * U)) h₂)

-- jamming j bits leaves the rounding of more than j bits as it is
pub round_jam : (N j m : ℕ) → round_ne N (j + suc m) ≡ round_ne (jam j N) (suc (suc m))
unfolding round_ne jam
round_jam N j m =
    let q = N / 2 ^ j in
    let w : 2 ^ suc m ≡ 2 * 2 ^ m = omega arith in
    let w₂ : 2 ^ suc (suc m) ≡ 2 * (2 * 2 ^ m) = omega arith in
    let pw : 2 ^ (j + suc m) ≡ 2 * 2 ^ m * 2 ^ j = pow-add 2 j (suc m) ∙ mul_comm (2 ^ j) (2 ^ suc m) ∙ ap (λ (z : ℕ). z * 2 ^ j) w in
    let pos : 0 < 2 * 2 ^ m = subst (λ (z : ℕ). 0 < z) w (pow_pos (suc m)) in
    let eq : q / (2 * 2 ^ m) * (2 * 2 ^ m) + q % (2 * 2 ^ m) ≡ q = div-add-mod' q (2 * 2 ^ m) in
    let e_n : N ≡ (q / (2 * 2 ^ m) * (2 * 2 ^ m) + q % (2 * 2 ^ m)) * 2 ^ j + N % 2 ^ j =
    sym (ap (λ (z : ℕ). z * 2 ^ j + N % 2 ^ j) eq ∙ div-add-mod' N (2 ^ j)) in
    ap₂ closest e_n pw
    ∙ jam_core (q / (2 * 2 ^ m)) (q % (2 * 2 ^ m)) (N % 2 ^ j) (2 ^ j) (2 ^ m) (mod-lt N (pow_pos j)) (mod-lt q pos)
    ∙ ap₂ (λ (y z : ℕ). closest (2 * y + min (N % 2 ^ j) 1) z) eq (sym w₂)

-- ---- jam of a multiple of 2^j, and of a sum and a difference with one
pub jam_at : (j w r : ℕ) → r < 2 ^ j → jam j (w * 2 ^ j + r) ≡ 2 * w + min r 1
unfolding jam
jam_at j w r h = ap₂ (λ (x y : ℕ). 2 * x + min y 1) (digits_div w h) (digits_mod w h)

pub jam_zero : (j : ℕ) → jam j 0 ≡ 0
unfolding jam
jam_zero j = ap₂ (λ (x y : ℕ). 2 * x + min y 1) (div-eq_of_lt (pow_pos j)) (mod-eq_of_lt (pow_pos j))

-- every bit dropped
pub jam_all : (j N : ℕ) → N < 2 ^ j → jam j N ≡ min N 1
unfolding jam
jam_all j N h = ap₂ (λ (x y : ℕ). 2 * x + min y 1) (div-eq_of_lt h) (mod-eq_of_lt h) ∙ omega arith

pub jam_add : (j X Y : ℕ) → jam j (X * 2 ^ j + Y) ≡ 2 * X + jam j Y
unfolding jam
jam_add j X Y =
    let e_y = div-add-mod' Y (2 ^ j) in
    let e : X * 2 ^ j + Y ≡ (X + Y / 2 ^ j) * 2 ^ j + Y % 2 ^ j = omega arith in
    ap (jam j) e ∙ jam_at j (X + Y / 2 ^ j) (Y % 2 ^ j) (mod-lt Y (pow_pos j)) ∙ omega arith

-- with X = a + d, or X = a + d + 1
sub_even : (j a d : ℕ) → jam j ((a + d) * 2 ^ j - (a * 2 ^ j + 0)) ≡ 2 * (a + d) - (2 * a + 0)
sub_even j a d =
    let e : (a + d) * 2 ^ j - (a * 2 ^ j + 0) ≡ d * 2 ^ j + 0 = omega arith in
    ap (jam j) e ∙ jam_at j d 0 (pow_pos j) ∙ omega arith

sub_odd : (j a d r : ℕ) → 0 < r → r < 2 ^ j → jam j ((a + suc d) * 2 ^ j - (a * 2 ^ j + r)) ≡ 2 * (a + suc d) - (2 * a + min r 1)
sub_odd j a d r p h =
    let e : (a + suc d) * 2 ^ j - (a * 2 ^ j + r) ≡ d * 2 ^ j + (2 ^ j - r) = omega arith in
    let l : 2 ^ j - r < 2 ^ j = omega arith in
    ap (jam j) e ∙ jam_at j d (2 ^ j - r) l ∙ omega arith

sub_at : (j X a r : ℕ) → r < 2 ^ j → a * 2 ^ j + r ≤ X * 2 ^ j → jam j (X * 2 ^ j - (a * 2 ^ j + r)) ≡ 2 * X - (2 * a + min r 1)
sub_at j X a zero h l =
    elim (lt_or_ge X a) [
      | inl x ↦ let m = mul-le-mul_right (2 ^ j) x in absurd (omega arith)
      | inr x ↦
          let e : a + (X - a) ≡ X = omega arith in
          subst (λ (z : ℕ). jam j (z * 2 ^ j - (a * 2 ^ j + 0)) ≡ 2 * z - (2 * a + 0)) e (sub_even j a (X - a))
    ]
sub_at j X a (suc r) h l =
    elim (lt_or_ge a X) [
      | inr x ↦ let m = mul-le-mul_right (2 ^ j) x in absurd (omega arith)
      | inl x ↦
          let e : a + suc (X - suc a) ≡ X = omega arith in
          subst (λ (z : ℕ). jam j (z * 2 ^ j - (a * 2 ^ j + suc r)) ≡ 2 * z - (2 * a + min (suc r) 1)) e
          (sub_odd j a (X - suc a) (suc r) (omega arith) h)
    ]

pub jam_sub : (j X Y : ℕ) → Y ≤ X * 2 ^ j → jam j (X * 2 ^ j - Y) ≡ 2 * X - jam j Y
jam_sub j X Y h =
    let e_y : Y / 2 ^ j * 2 ^ j + Y % 2 ^ j ≡ Y = div-add-mod' Y (2 ^ j) in
    ap (λ (z : ℕ). jam j (X * 2 ^ j - z)) (sym e_y)
    ∙ sub_at j X (Y / 2 ^ j) (Y % 2 ^ j) (mod-lt Y (pow_pos j)) (omega arith)
    ∙ ap (λ (z : ℕ). 2 * X - z) (sym (jam_is j Y))

-- ---- bounds
pub jam_pos : (j N : ℕ) → 0 < N → 0 < jam j N
unfolding jam
jam_pos j N h = go (N / 2 ^ j) (N % 2 ^ j) (div-add-mod' N (2 ^ j))
  where
    go : (q r : ℕ) → q * 2 ^ j + r ≡ N → 0 < 2 * q + min r 1
    go zero r e = let z : 0 * 2 ^ j ≡ 0 = zero-mul (2 ^ j) in omega arith
    go (suc q) r e = omega arith

pub jam_le : (j N w : ℕ) → N ≤ w * 2 ^ j → jam j N ≤ 2 * w
unfolding jam
jam_le j N w h = go (N / 2 ^ j) (N % 2 ^ j) (div-add-mod' N (2 ^ j))
  where
    go : (q r : ℕ) → q * 2 ^ j + r ≡ N → 2 * q + min r 1 ≤ 2 * w
    go q r e =
        elim (lt_or_ge q w) [
          | inl l ↦ omega arith
          | inr l ↦
              elim (eq-or-lt_of_le l) [
                | inl g ↦ let m : w * 2 ^ j ≡ q * 2 ^ j = ap (λ (z : ℕ). z * 2 ^ j) g in omega arith
                | inr g ↦ let m = mul-le-mul_right (2 ^ j) g in absurd (omega (arith, pow_pos j))
              ]
        ]

pub jam_lt : (N j m : ℕ) → N < 2 ^ (m + j) → jam j N < 2 ^ suc m
unfolding jam
jam_lt N j m h = let g : N / 2 ^ j < 2 ^ m = shr_lt m j h in omega arith

pub jam_ge : (N j m : ℕ) → 2 ^ (m + j) ≤ N → 2 ^ suc m ≤ jam j N
unfolding jam
jam_ge N j m h = let g : 2 ^ m ≤ N / 2 ^ j = (le-div_iff_mul-le (pow_pos j)).1 (le_trans (le_of_eq (sym (pow-add 2 m j))) h) in omega arith

-- at most g bits dropped off a multiple of 2^g: nothing is lost
pub jam_exact : (j g x : ℕ) → j ≤ g → jam j (x * 2 ^ g) * 2 ^ j ≡ x * 2 ^ suc g
jam_exact j g x h =
    let e : g - j + j ≡ g = omega arith in
    let p : 2 ^ g ≡ 2 ^ (g - j) * 2 ^ j = ap (λ (z : ℕ). 2 ^ z) (sym e) ∙ pow-add 2 (g - j) j in
    let s : x * 2 ^ g ≡ x * 2 ^ (g - j) * 2 ^ j + 0 = ap (λ (z : ℕ). x * z) p ∙ regroup x (2 ^ (g - j)) (2 ^ j) in
    ap (λ (z : ℕ). jam j z * 2 ^ j) s ∙ ap (λ (z : ℕ). z * 2 ^ j) (jam_at j (x * 2 ^ (g - j)) 0 (pow_pos j))
    ∙ last (x * 2 ^ (g - j)) (2 ^ j) ∙ ap (λ (z : ℕ). 2 * z) (sym s) ∙ double x (2 ^ g) ∙ ap (λ (z : ℕ). x * z) (sym (pow-suc 2 g))
  where
    regroup : (x a b : ℕ) → x * (a * b) ≡ x * a * b + 0
    regroup x a b = omega arith

    last : (v b : ℕ) → (2 * v + 0) * b ≡ 2 * (v * b + 0)
    last v b = omega arith

    double : (x p : ℕ) → 2 * (x * p) ≡ x * (p * 2)
    double x p = omega arith
