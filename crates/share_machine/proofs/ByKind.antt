-- What a share word takes of the tape, by its kind; and that the RANDs of a program without a bad word are good, of one that a run takes, and of a
-- part of it.
use Rattle.std.specs.Prelude.{Option, Some, None}
use mathlib.Core.Path.{◌≡◌, refl, sym, ap, ap₂, ◌∙◌}
use mathlib.Core.Bool.{Bool, true, false, not, ◌||◌, false≢true}
use mathlib.Core.List.{List, [], ◌∷◌}
use Prim.Native.Nat.{ℕ, zero, suc, ◌+◌}
use native.Mathlib.Nat.{add-zero, lt_of_lt_of_le, le_trans, le_of_eq, min-le_left}
use native.Mathlib.Omega.{arith}
use lib.ListN.{length, take, drop, length-take, length-drop}
use lib.Seq.{get_or-drop, get_or-take}
use borrow.Author.Tests.{eqb-true}
use Rattle.word.specs.declared.step.Step.{Step}
use Rattle.word.specs.declared.step.Step.TheVariants.{Const, Xor, And, Not, Shl, Shr, Spread, Add, Rand}
use Rattle.word.specs.Encoding.{kind_of, kind_number, in_program, program_step, is_good}
use Rattle.word.specs.Head.{head_word, is_head}
use Rattle.word.proofs.Small.{share_range}
use Rattle.word.proofs.Head.{head_kind, head_of}
use Rattle.checks.specs.Answers.{first_bad}
use Rattle.checks_run.proofs.RunChecked.{Takes}
use Rattle.checks.proofs.Checking.{first_bad_is}
use Rattle.masking.specs.Machine.{takes, with_step, rands_of, rands}
use Rattle.masking.proofs.emitted.Steps.{taken_kind}
use Rattle.share_machine.specs.inner.Good.{GoodWord, RandsGood}

one : (s : Step) → kind_number s ≡ 9 → takes s ≡ 1
one (Const d k) h = absurd (omega arith)
one (Xor d a b) h = absurd (omega arith)
one (And d a b) h = absurd (omega arith)
one (Not d a) h = absurd (omega arith)
one (Shl d a b) h = absurd (omega arith)
one (Shr d a b) h = absurd (omega arith)
one (Spread d a) h = absurd (omega arith)
one (Add d a b) h = absurd (omega arith)
one (Rand d) h = refl

none : (s : Step) → (kind_number s ≡ 9 → ⊥) → takes s ≡ 0
none (Const d k) h = refl
none (Xor d a b) h = refl
none (And d a b) h = refl
none (Not d a) h = refl
none (Shl d a b) h = refl
none (Shr d a b) h = refl
none (Spread d a) h = refl
none (Add d a b) h = refl
none (Rand d) h = absurd (h refl)

-- a good RAND takes a tape word
module _ (w : ℕ) (s : Step) (g : program_step w ≡ Some s) where
  kind_is : kind_of w ≡ kind_number s
  kind_is = taken_kind in_program w s g

  takes_is : rands (w ∷ []) ≡ takes s
  takes_is = ap (λ (d : Option Step). rands_of (with_step d [])) g ∙ add-zero (takes s)

pub takes_rand : (w : ℕ) → GoodWord w → kind_of w ≡ 9 → rands (w ∷ []) ≡ 1
takes_rand w g e = takes_is w g.0 g.1 ∙ one g.0 (sym (kind_is w g.0 g.1) ∙ e)

-- no word of another kind does, good or not
pub takes_none : (w : ℕ) → (kind_of w ≡ 9 → ⊥) → rands (w ∷ []) ≡ 0
takes_none w h = by (program_step w) refl
  where
    by : (d : Option Step) → program_step w ≡ d → rands (w ∷ []) ≡ 0
    by (Some s) e = takes_is w s e ∙ none s (λ k. h (kind_is w s e ∙ k))
    by None e = ap (λ (d : Option Step). rands_of (with_step d [])) e

-- the RANDs of a program without a bad word are good, also behind a head, and so are those of a part
pub all_good : (P : List ℕ) → first_bad program_step P ≡ length P → RandsGood P
all_good P e i h k = let f = first_bad_is program_step P in f.good i (rw e h)

pub taken_good : (n : ℕ) (P : List ℕ) → Takes n P → RandsGood P
taken_good n [] t i h k = absurd (omega (arith, h))
taken_good n (w ∷ P) t zero h k =
    let e = eqb-true w (head_word n) t.head in
    absurd (omega (arith, k, ap kind_of e, head_kind n (share_range n t.count).1))
taken_good n (w ∷ P) t (suc i) h k =
    (first_bad_is program_step P).good i (omega (arith, t.good, h))

-- and so is that of one word that is a head or good
pub one_good : (w : ℕ) → not (is_head w || is_good (program_step w)) ≡ false → RandsGood (w ∷ [])
one_good w h zero l k = by (is_head w) refl (program_step w) refl
  where
    by : (b : Bool) → is_head w ≡ b → (d : Option Step) → program_step w ≡ d → GoodWord w
    by b e (Some s) g = (s, g)
    by true e None g = absurd (omega (arith, k, head_of w e))
    by false e None g = absurd (false≢true (sym h ∙ ap₂ (λ (p : Bool) (d : Option Step). not (p || is_good d)) e g))
one_good w h (suc i) l k = absurd (omega (arith, l))

pub part_good : (P : List ℕ) (m k : ℕ) → RandsGood P → RandsGood (take k (drop m P))
part_good P m k g i h =
    rw (get_or-take k (drop m P) i 0 (lt_of_lt_of_le h (le_trans (le_of_eq (length-take k (drop m P))) (min-le_left k (length (drop m P))))), get_or-drop m P i 0)
    (g (m + i) (omega (arith, length-take k (drop m P), length-drop m P, h)))
