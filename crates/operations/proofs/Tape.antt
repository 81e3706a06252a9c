-- The tape words that the operations on shares report, from the figures of the plans' own words: a call that is done reports what it needs. Rests on
-- plans' Cost and BuiltIns, and on checks' Passed.
use mathlib.Core.Path.{◌≡◌, refl, ap, ap₂, ◌∙◌}
use mathlib.Core.Bool.{Bool, true, false, not, ◌&&◌}
use mathlib.Core.List.{List}
use Prim.Native.Nat.{ℕ, ◌+◌, ◌-◌, ◌*◌, ◌≤◌}
use native.Mathlib.Nat.{le_trans, le_of_eq, mul-le-mul_right}
use native.Mathlib.Omega.{arith}
use lib.Dec.{T, leb, leb→le, ltb, eqb}
use lib.ListN.{length}
use borrow.Author.Tests.{not-false, le-leb, le-ltb, eq-eqb}
use Rattle.word.specs.Layout.{is_share_count}
use Rattle.word.proofs.Small.{share_range}
use Rattle.checks.specs.declared.answer.Answer.{Answer}
use Rattle.checks.specs.Answers.{done, refused, given}
use Rattle.checks.proofs.Passed.{passed}
use Rattle.masking.specs.Foretold.{foretold_tape}
use Rattle.binary64.specs.Operations.{Operation, Product, Sum, Floor, Truncate, Nearest}
use Rattle.plans.specs.Cost.{masked_ands}
use Rattle.plans.specs.BuiltIns.{described, plan_of}
use Rattle.plans.proofs.BuiltIns.{built_ins}
use Rattle.plans.proofs.Cost.{by_words}
use Rattle.masked_call.specs.Shares.{answer_for, call_answer}
use Rattle.operations.specs.RandomWords.{Takes, RandomWords}

-- ---- an answer that is done is what stands after the turn-downs
pub next_is : (b : Bool) (k : ℕ) (next : Answer) → (k ≡ 0 → ⊥) → (given b (refused k) next).number ≡ 0 → given b (refused k) next ≡ next
next_is true k next f z = absurd (f z)
next_is false k next f z = refl

-- turned down by 1 where the share count is none
pub shares_are : (n : ℕ) (next : Answer) → (given (not (is_share_count n)) (refused 1) next).number ≡ 0 → (2 ≤ n) × (n ≤ 8)
shares_are n next z = share_range n (not-false (is_share_count n) (passed (not (is_share_count n)) (refused 1) next (λ e. omega arith) z).0)

-- three turn-downs before `done 0 needed`
pub after_three : (b₁ b₂ b₃ : Bool) (k₁ k₂ k₃ needed : ℕ) → (k₁ ≡ 0 → ⊥) → (k₂ ≡ 0 → ⊥) → (k₃ ≡ 0 → ⊥)
    → (given b₁ (refused k₁) (given b₂ (refused k₂) (given b₃ (refused k₃) (done 0 needed)))).number ≡ 0
    → given b₁ (refused k₁) (given b₂ (refused k₂) (given b₃ (refused k₃) (done 0 needed))) ≡ done 0 needed
after_three true b₂ b₃ k₁ k₂ k₃ needed e f g z = absurd (e z)
after_three false true b₃ k₁ k₂ k₃ needed e f g z = absurd (f z)
after_three false false true k₁ k₂ k₃ needed e f g z = absurd (g z)
after_three false false false k₁ k₂ k₃ needed e f g z = refl

operation_done : (needed n other result work tape : ℕ) → (answer_for needed n other result work tape).number ≡ 0
    → (answer_for needed n other result work tape ≡ done 0 needed) × (2 ≤ n) × (n ≤ 8)
unfolding answer_for
operation_done needed n other result work tape z =
    let b₁ : Bool = not (is_share_count n) in
    let b₄ : Bool = not (eqb other n && (eqb result n && eqb work 512)) in
    let s = shares_are n (given b₄ (refused 4) (given (ltb tape needed) (refused 6) (done 0 needed))) z in
    (after_three b₁ b₄ (ltb tape needed) 1 4 6 needed (λ e. omega arith) (λ e. omega arith) (λ e. omega arith) z, s.0, s.1)

-- ---- an answer that is not done reports 0
after_two : (b₂ b₃ : Bool) (k₂ k₃ needed most : ℕ) → needed ≤ most → (given b₂ (refused k₂) (given b₃ (refused k₃) (done 0 needed))).tape ≤ most
after_two true b₃ k₂ k₃ needed most h = omega arith
after_two false true k₂ k₃ needed most h = omega arith
after_two false false k₂ k₃ needed most h = h

below_most : (needed most n other result work tape : ℕ) → (2 ≤ n → n ≤ 8 → needed ≤ most) → (answer_for needed n other result work tape).tape ≤ most
unfolding answer_for
below_most needed most n other result work tape h = go (is_share_count n) refl
  where
    b₄ : Bool
    b₄ = not (eqb other n && (eqb result n && eqb work 512))

    go : (b : Bool) → is_share_count n ≡ b → (given (not b) (refused 1) (given b₄ (refused 4) (given (ltb tape needed) (refused 6) (done 0 needed)))).tape ≤ most
    go true e = let r = share_range n e in after_two b₄ (ltb tape needed) 4 6 needed most (h r.0 r.1)
    go false e = omega arith

-- ---- an answer whose tests all pass
pub answer_done : (needed n other result work tape : ℕ) → 2 ≤ n → n ≤ 8 → other ≡ n → result ≡ n → work ≡ 512 → needed ≤ tape
    → answer_for needed n other result work tape ≡ done 0 needed
unfolding answer_for
answer_done needed n other result work tape least most o r w enough =
    rw (le-leb 2 n least, le-leb n 8 most, eq-eqb other n o, eq-eqb result n r, eq-eqb work 512 w, le-ltb tape needed enough)

-- ---- an operation by its figures
takes : (o : Operation) (ands ceiling : ℕ) → masked_ands (plan_of o) ≡ ands → T (leb ands ceiling) → (described o).ands + 12 * (described o).adds ≡ ands → Takes o ands ceiling
takes o ands ceiling c l e =
    record {
      counted = c;
      foretold = foretold;
      reported = reported;
      below =
          λ x y result work tape. below_most (foretold_tape (length x) (plan_of o)) (ceiling * (length x * (length x - 1))) (length x) (length y) (length result) (length work) (length tape)
          (λ least most. le_trans (le_of_eq (foretold (length x) least most)) (mul-le-mul_right (length x * (length x - 1)) (leb→le ands ceiling l)));
      shares = λ x y result work tape z. let d = is_done x y result work tape z in (d.1, d.2);
      enough =
          λ x y result work tape least most hy hr hw fits. let f = foretold (length x) least most in
          ap (λ (k : ℕ). answer_for k (length x) (length y) (length result) (length work) (length tape)) f
          ∙ answer_done (ands * (length x * (length x - 1))) (length x) (length y) (length result) (length work) (length tape) least most hy hr hw fits;
    }
  where
    foretold : (n : ℕ) → 2 ≤ n → n ≤ 8 → foretold_tape n (plan_of o) ≡ ands * (n * (n - 1))
    foretold n a b = (built_ins o).figures.tape_is n a b ∙ ap (λ (k : ℕ). k * (n * (n - 1))) e

    is_done : (x y result work tape : List ℕ) → (call_answer (plan_of o) x y result work tape).number ≡ 0
        → (call_answer (plan_of o) x y result work tape ≡ done 0 (foretold_tape (length x) (plan_of o))) × (2 ≤ length x) × (length x ≤ 8)
    is_done x y result work tape z = operation_done (foretold_tape (length x) (plan_of o)) (length x) (length y) (length result) (length work) (length tape) z

    reported : (x y result work tape : List ℕ) → (call_answer (plan_of o) x y result work tape).number ≡ 0
        → (call_answer (plan_of o) x y result work tape).tape ≡ ands * (length x * (length x - 1))
    reported x y result work tape z =
        let d = is_done x y result work tape z in ap (λ (a : Answer). a.tape) d.0 ∙ foretold (length x) d.1 d.2

-- counted in the plan's own words
counted : (o : Operation) → masked_ands (plan_of o) ≡ (described o).ands + 12 * (described o).adds
counted o = ap₂ (λ (i j : ℕ). i + 12 * j) (built_ins o).figures.ands_are (built_ins o).figures.adds_are

pub random_words : RandomWords
random_words =
    record {
      by_words = by_words;
      product = takes Product _ _ (counted Product) tt refl;
      sum = takes Sum _ _ (counted Sum) tt refl;
      floor = takes Floor _ _ (counted Floor) tt refl;
      truncate = takes Truncate _ _ (counted Truncate) tt refl;
      nearest = takes Nearest _ _ (counted Nearest) tt refl;
    }
