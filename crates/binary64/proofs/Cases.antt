-- Cases by order, and what a choice gives once its test is known. Rests on lib.Dec and borrow.Author.Tests.
use mathlib.Core.Path.{◌≡◌, refl, sym, ap, subst}
use mathlib.Core.Logic.{◌⊎◌, inl, inr}
use mathlib.Core.Bool.{Bool, true, false, not, cond}
use Prim.Native.Nat.{ℕ, suc, ◌^◌, ◌≤◌, ◌<◌, compare, Ordering}
use native.Mathlib.Nat.{lt_of_not-le, not-le_of_lt, le_antisymm, lt_of_lt_of_le}
use native.Mathlib.Omega.{arith}
use lib.Dec.{T, ltb, leb, eqb, is_le, compare_is_eq, leb→le, nleb→lt, eqb→eq, eqb_refl}
use lib.Arith.{lt_of_le-ne}
use lib.Pow.{pow_mono}
use lib.Ieee.{size}
use lib.Ieee.Digits.{size-lt, size-le}
use borrow.Author.Tests.{lt-ltb, le-ltb, le-leb, lt-leb, eq-eqb, ne_eqb}

-- what a comparison's answer says
abbrev pub Cmp : Ordering → ℕ → ℕ → Type 0
Cmp Ordering.lt a b = a < b
Cmp Ordering.eq a b = a ≡ b
Cmp Ordering.gt a b = b < a

pub cmp : (a b : ℕ) → Cmp (compare a b) a b
cmp a b = go (compare a b) (leb→le a b) (nleb→lt a b) (eqb→eq a b) (λ (e : a ≡ b). subst (λ (x : ℕ). T (eqb a x)) e (eqb_refl a))
  where
    go : (o : Ordering) → (T (is_le o) → a ≤ b) → (T (not (is_le o)) → b < a) → (T (compare_is_eq o) → a ≡ b) → (a ≡ b → T (compare_is_eq o)) → Cmp o a b
    go Ordering.lt h k e n = lt_of_le-ne (h tt) n
    go Ordering.eq h k e n = e tt
    go Ordering.gt h k e n = k tt

-- two comparisons with the same answer
same : (o p : Ordering) (a b c d : ℕ) → Cmp o a b → Cmp p c d → (a < b → c < d) → (a ≡ b → c ≡ d) → (b < a → d < c) → o ≡ p
same Ordering.lt Ordering.lt a b c d x y l e g = refl
same Ordering.lt Ordering.eq a b c d x y l e g = let h = l x in absurd (omega arith)
same Ordering.lt Ordering.gt a b c d x y l e g = let h = l x in absurd (omega arith)
same Ordering.eq Ordering.lt a b c d x y l e g = let h = e x in absurd (omega arith)
same Ordering.eq Ordering.eq a b c d x y l e g = refl
same Ordering.eq Ordering.gt a b c d x y l e g = let h = e x in absurd (omega arith)
same Ordering.gt Ordering.lt a b c d x y l e g = let h = g x in absurd (omega arith)
same Ordering.gt Ordering.eq a b c d x y l e g = let h = g x in absurd (omega arith)
same Ordering.gt Ordering.gt a b c d x y l e g = refl

pub agree : (a b c d : ℕ) → (a < b → c < d) → (a ≡ b → c ≡ d) → (b < a → d < c) → compare a b ≡ compare c d
agree a b c d = same (compare a b) (compare c d) a b c d (cmp a b) (cmp c d)

pub lt_or_ge : (a b : ℕ) → (a < b) ⊎ (b ≤ a)
lt_or_ge a b = go (compare a b) (cmp a b)
  where
    go : (o : Ordering) → Cmp o a b → (a < b) ⊎ (b ≤ a)
    go Ordering.lt x = inl x
    go Ordering.eq x = inr (omega arith)
    go Ordering.gt x = inr (omega arith)

pub zero_one : {x : ℕ} → x ≡ 0 → x ≡ 1 → ⊥
zero_one e f = omega arith

-- ---- a choice by a test that is known
pub if_lt : (a b x y : ℕ) → a < b → cond (ltb a b) x y ≡ x
if_lt a b x y h = ap (λ (t : Bool). cond t x y) (lt-ltb a b h)

pub if_not_lt : (a b x y : ℕ) → b ≤ a → cond (ltb a b) x y ≡ y
if_not_lt a b x y h = ap (λ (t : Bool). cond t x y) (le-ltb a b h)

pub if_le : (a b x y : ℕ) → a ≤ b → cond (leb a b) x y ≡ x
if_le a b x y h = ap (λ (t : Bool). cond t x y) (le-leb a b h)

pub if_not_le : (a b x y : ℕ) → b < a → cond (leb a b) x y ≡ y
if_not_le a b x y h = ap (λ (t : Bool). cond t x y) (lt-leb a b h)

pub if_eq : (a b x y : ℕ) → a ≡ b → cond (eqb a b) x y ≡ x
if_eq a b x y h = ap (λ (t : Bool). cond t x y) (eq-eqb a b h)

pub if_not_eq : (a b x y : ℕ) → (a ≡ b → ⊥) → cond (eqb a b) x y ≡ y
if_not_eq a b x y h = ap (λ (t : Bool). cond t x y) (ne_eqb a b h)

pub if_some : (x y z : ℕ) → (x ≡ 0 → ⊥) → cond (not (eqb x 0)) y z ≡ y
if_some x y z h = ap (λ (t : Bool). cond (not t) y z) (ne_eqb x 0 h)

pub if_none : (x y z : ℕ) → x ≡ 0 → cond (not (eqb x 0)) y z ≡ z
if_none x y z h = ap (λ (t : Bool). cond (not t) y z) (eq-eqb x 0 h)

-- ---- whatever a test gives: what holds of both answers
pub by_lt : (P : Bool → Type 0) (a b : ℕ) → (a < b → P true) → (b ≤ a → P false) → P (ltb a b)
by_lt P a b t f =
    elim (lt_or_ge a b) [
      | inl l ↦ subst P (sym (lt-ltb a b l)) (t l)
      | inr l ↦ subst P (sym (le-ltb a b l)) (f l)
    ]

pub by_eq : (P : Bool → Type 0) (a b : ℕ) → (a ≡ b → P true) → ((a ≡ b → ⊥) → P false) → P (eqb a b)
by_eq P a b t f = go (compare a b) (cmp a b)
  where
    go : (o : Ordering) → Cmp o a b → P (eqb a b)
    go Ordering.lt l = subst P (sym (ne_eqb a b (λ e. omega arith))) (f (λ e. omega arith))
    go Ordering.eq e = subst P (sym (eq-eqb a b e)) (t e)
    go Ordering.gt l = subst P (sym (ne_eqb a b (λ e. omega arith))) (f (λ e. omega arith))

-- ---- the length of a number in bits
pub pow_lt_back : (i j : ℕ) → 2 ^ i < 2 ^ j → i < j
pow_lt_back i j h = lt_of_not-le (λ g. not-le_of_lt h (pow_mono g))

pub size_gt : (n j : ℕ) → 2 ^ j ≤ n → j < size n
size_gt n j h = lt_of_not-le (λ (g : size n ≤ j). not-le_of_lt (lt_of_lt_of_le (size-lt n) (pow_mono g)) h)

pub size_is : (n z : ℕ) → 2 ^ z ≤ n → n < 2 ^ suc z → size n ≡ suc z
size_is n z l h = le_antisymm (size-le n (suc z) h) (size_gt n z l)
