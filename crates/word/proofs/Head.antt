-- The head of a share program: it has kind 10, which names no step, and tells its count; and whether a word is one, by its field d.
use Rattle.std.specs.Prelude.{Option, None}
use mathlib.Core.Path.{◌≡◌, refl, sym, ap, ◌∙◌}
use mathlib.Core.Bool.{Bool, true, false, ◌&&◌}
use Prim.Native.Nat.{ℕ, ◌≤◌, ◌<◌}
use native.Mathlib.Omega.{arith}
use lib.Dec.{leb, eqb}
use borrow.Author.Tests.{le-leb, lt-leb, eq-eqb, eqb-true}
use Rattle.word.specs.declared.step.Step.{Step}
use Rattle.word.specs.Encoding.{kind_of, bit27, field_d, field_a, field_b, either, row, named, put, held, in_plan, in_program, plan_step, program_step}
use Rattle.word.specs.Head.{head_word, is_head}
use Rattle.word.proofs.Small.{share_range}

row_10 : (d a b : ℕ) → row 10 d a b ≡ None
unfolding row
row_10 d a b = refl

either_bad : (b : Bool) → either b None None ≡ None
either_bad true = refl
either_bad false = refl

named_10 : (w : ℕ) → kind_of w ≡ 10 → named w ≡ None
unfolding named
named_10 w e =
    ap (λ (k : ℕ). either (eqb (bit27 w) 0) (row k (field_d w) (field_a w) (field_b w)) None) e
    ∙ ap (λ (r : Option Step). either (eqb (bit27 w) 0) r None) (row_10 (field_d w) (field_a w) (field_b w)) ∙ either_bad (eqb (bit27 w) 0)

pub head_kind : (n : ℕ) → n ≤ 8 → kind_of (head_word n) ≡ 10
unfolding put
head_kind n h = omega arith

-- no step
pub kind_10_bad : (w : ℕ) → kind_of w ≡ 10 → (program_step w ≡ None) × (plan_step w ≡ None)
kind_10_bad w e = (ap (held in_program) (named_10 w e), ap (held in_plan) (named_10 w e))

pub head_bad : (n : ℕ) → n ≤ 8 → program_step (head_word n) ≡ None
head_bad n h = (kind_10_bad (head_word n) (head_kind n h)).0

-- its other fields
module _ (n : ℕ) (h : n ≤ 8) where
  pub head_count : field_d (head_word n) ≡ n
  unfolding put
  head_count = omega arith

  pub head_rest : (bit27 (head_word n) ≡ 0) × (field_a (head_word n) ≡ 0) × (field_b (head_word n) ≡ 0)
  unfolding put
  head_rest = (omega arith, omega arith, omega arith)

-- one for each share count
pub head_is : (n : ℕ) → 2 ≤ n → n ≤ 8 → is_head (head_word n) ≡ true
unfolding is_head
head_is n l h = rw (head_count n h, le-leb 2 n l, le-leb n 8 h) (eq-eqb (head_word n) (head_word n) refl)

-- and no other word is one
pub head_only : (w : ℕ) → is_head w ≡ true → (2 ≤ field_d w) × (field_d w ≤ 8) × (w ≡ head_word (field_d w))
unfolding is_head
head_only w e =
    let b = both (leb 2 (field_d w) && leb (field_d w) 8) (eqb w (head_word (field_d w))) e in
    let r = share_range (field_d w) b.0 in
    (r.0, r.1, eqb-true w (head_word (field_d w)) b.1)
  where
    both : (p q : Bool) → (p && q) ≡ true → (p ≡ true) × (q ≡ true)
    both true q h = (refl, h)
    both false q h = let z : ◌≡◌ {A = ℕ} 0 1 = cc in absurd (omega arith)

pub head_of : (w : ℕ) → is_head w ≡ true → kind_of w ≡ 10
head_of w e = let o = head_only w e in ap kind_of o.2 ∙ head_kind (field_d w) o.1

-- heads for two counts are two words
pub heads_differ : (n k : ℕ) → n ≤ 8 → k ≤ 8 → (k ≡ n → ⊥) → head_word n ≡ head_word k → ⊥
heads_differ n k h l o e = o (sym (head_count k l) ∙ ap field_d (sym e) ∙ head_count n h)

-- by the field d
module _ (w : ℕ) {d : ℕ} (e : d ≡ field_d w) where
  pub few_no_head : d < 2 → is_head w ≡ false
  unfolding is_head
  few_no_head h = rw (lt-leb 2 _ (rw e at h))

  pub many_no_head : 8 < d → is_head w ≡ false
  unfolding is_head
  many_no_head h = rw (le-leb 2 (field_d w) (omega (arith, e, h)), lt-leb (field_d w) 8 (rw e at h))

  pub head_by_word : 2 ≤ d → d ≤ 8 → is_head w ≡ eqb w (head_word d)
  unfolding is_head
  head_by_word l h = rw (le-leb 2 (field_d w) (rw e at l), le-leb (field_d w) 8 (rw e at h)) (ap (λ (n : ℕ). eqb w (head_word n)) (sym e))
