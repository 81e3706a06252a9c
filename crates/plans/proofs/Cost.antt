-- What the built-in plans cost and read, computed from their own words: a plan's tape words are as many times n(n−1) as it has ANDs, with each
-- ADD as twelve of them.
use mathlib.Core.Path.{◌≡◌, refl, sym, ap₂, ◌∙◌, subst}
use mathlib.Core.Bool.{Bool, true, false, cond}
use mathlib.Core.List.{List, [], ◌∷◌}
use Prim.Native.Nat.{ℕ, ◌+◌, ◌-◌, ◌*◌, ◌≤◌}
use native.Mathlib.Nat.{zero-mul, add-mul}
use native.Mathlib.Omega.{arith}
use lib.Dec.{T, eqb, eqb→eq}
use lib.ListN.{length}
use borrow.Author.Tests.{eqb-true}
use Rattle.word.specs.Encoding.{row, named, put, kind_of}
use Rattle.word.specs.Layout.{pair_count, tape_of}
use Rattle.masking.specs.Foretold.{foretold_tape}
use Rattle.checks.specs.Unset.{reads_only}
use Rattle.plans.proofs.Tests.{every, each}
use Rattle.binary64.specs.Operations.{Product, Sum, Floor, Truncate, Nearest}
use Rattle.plans.specs.Cost.{Figures, of_kind, masked_ands}
use Rattle.plans.specs.BuiltIns.{Described, described}
use Rattle.plans.specs.words.ProductPlan.{product_head, carry_row, product_row, product_rows, last_rows, product_end, product_tail, product_steps, product_plan}
use Rattle.plans.specs.words.SumPlan.{sum_plan}
use Rattle.plans.specs.words.FloorPlan.{floor_plan}
use Rattle.plans.specs.words.TruncatePlan.{truncate_plan}
use Rattle.plans.specs.words.NearestPlan.{nearest_plan}

-- what a word of kind k takes from the tape, in units of 2Q
abbrev units_of : ℕ → ℕ
units_of k = cond (eqb k 3) 1 (cond (eqb k 8) 12 0)

abbrev units : List ℕ → ℕ
units [] = 0
units (w ∷ ws) = units_of (kind_of w) + units ws

word_units : (k n : ℕ) → tape_of k n ≡ units_of k * (2 * pair_count n)
unfolding tape_of
word_units k n = by (eqb k 3) (eqb k 8) (pair_count n)
  where
    by : (p q : Bool) (Q : ℕ) → cond p (2 * Q) (cond q (24 * Q) 0) ≡ cond p 1 (cond q 12 0) * (2 * Q)
    by true q Q = omega arith
    by false true Q = omega arith
    by false false Q = omega arith

plan_units : (n : ℕ) (plan : List ℕ) → foretold_tape n plan ≡ units plan * (2 * pair_count n)
plan_units n [] = sym (zero-mul (2 * pair_count n))
plan_units n (w ∷ ws) = ap₂ ◌+◌ (word_units (kind_of w) n) (plan_units n ws) ∙ sym (add-mul (units_of (kind_of w)) (units ws) (2 * pair_count n))

-- these are the ANDs, and twelve times the ADDs
kind_units : (k : ℕ) → units_of k ≡ cond (eqb k 3) 1 0 + 12 * cond (eqb k 8) 1 0
kind_units k = go (eqb k 3) refl
  where
    other : (b : Bool) → cond b 12 0 ≡ 0 + 12 * cond b 1 0
    other true = refl
    other false = refl

    go : (b : Bool) → eqb k 3 ≡ b → units_of k ≡ cond (eqb k 3) 1 0 + 12 * cond (eqb k 8) 1 0
    go true e = subst (λ (j : ℕ). units_of j ≡ cond (eqb j 3) 1 0 + 12 * cond (eqb j 8) 1 0) (sym (eqb-true k 3 e)) refl
    go false e = rw e (other (eqb k 8))

plan_kinds : (plan : List ℕ) → units plan ≡ masked_ands plan
plan_kinds [] = refl
plan_kinds (w ∷ ws) =
    ap₂ ◌+◌ (kind_units (kind_of w)) (plan_kinds ws) ∙ regroup (cond (eqb (kind_of w) 3) 1 0) (cond (eqb (kind_of w) 8) 1 0) (of_kind 3 ws) (of_kind 8 ws)
  where
    regroup : (a b c d : ℕ) → a + 12 * b + (c + 12 * d) ≡ a + c + 12 * (b + d)
    regroup a b c d = omega arith

-- twice the pairs of shares
abbrev pairs_twice : ℕ → Bool
pairs_twice n = eqb (2 * pair_count n) (n * (n - 1))

pairs_twice_is : T (every 9 pairs_twice)
pairs_twice_is = tt

-- the foretold tape words of any plan
pub by_words : (n : ℕ) (plan : List ℕ) → 2 ≤ n → n ≤ 8 → foretold_tape n plan ≡ masked_ands plan * (n * (n - 1))
by_words n plan least most = plan_units n plan ∙ ap₂ ◌*◌ (plan_kinds plan) (eqb→eq _ _ (each 9 pairs_twice pairs_twice_is n (omega arith)))

-- what is said of a plan's words, each computed from them
abbrev pub OfWords : Described → Type 0
OfWords d = T (reads_only d.plan d.operands) × Figures d.plan d.words d.ands d.adds

of_words : (d : Described) → T (reads_only d.plan d.operands) → length d.plan ≡ d.words → of_kind 3 d.plan ≡ d.ands → of_kind 8 d.plan ≡ d.adds → OfWords d
of_words d reads words ands adds = (
  reads,
  record {
    words_are = words;
    ands_are = ands;
    adds_are = adds;
    tape_is = λ n least most. by_words n d.plan least most ∙ ap₂ (λ (i j : ℕ). (i + 12 * j) * (n * (n - 1))) ands adds;
  },
)

pub product_words : OfWords (described Product)
unfolding product_head carry_row product_row product_rows last_rows product_end product_tail product_steps product_plan put named row
product_words = of_words (described Product) tt refl refl refl

pub sum_words : OfWords (described Sum)
unfolding sum_plan put named row
sum_words = of_words (described Sum) tt refl refl refl

pub floor_words : OfWords (described Floor)
unfolding floor_plan put named row
floor_words = of_words (described Floor) tt refl refl refl

pub truncate_words : OfWords (described Truncate)
unfolding truncate_plan put named row
truncate_words = of_words (described Truncate) tt refl refl refl

pub nearest_words : OfWords (described Nearest)
unfolding nearest_plan put named row
nearest_words = of_words (described Nearest) tt refl refl refl
