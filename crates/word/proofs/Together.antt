-- Putting together and taking apart, for any rule that keeps cells below 512: a word that is not bad is what its parts put together
-- again, parts in range put together and taken apart are themselves, and no word stands in between.
use Rattle.std.specs.Prelude.{Option, Some, None}
use mathlib.Core.Path.{◌≡◌, refl, sym, ap, ap₂, ◌∙◌}
use mathlib.Core.Bool.{Bool, true, false, not}
use mathlib.Core.Logic.{◌⊎◌, inl, inr}
use Prim.Native.Nat.{ℕ, ◌+◌, ◌*◌, ◌/◌, ◌%◌, ◌^◌, ◌≤◌, ◌<◌}
use native.Mathlib.Nat.{mod-mod, mod-lt, mod-eq_of_lt, lt_of_lt_of_le, div-lt_iff_lt-mul, div-add-mod, div-add-mod', div-div-eq-div-mul}
use native.Mathlib.Omega.{arith}
use lib.Dec.{T, ltb, eqb, ltb→lt}
use lib.Pow.{pow_pos}
use borrow.Author.Tests.{eqb-true}
use Rattle.word.specs.declared.step.Step.{Step}
use Rattle.word.specs.declared.step.Step.TheVariants.{Const, Xor, And, Not, Shl, Shr, Spread, Add, Rand}
use Rattle.word.specs.Encoding.{kind_of, bit27, field_d, field_a, field_b, either, row, named, kind_number, within, in_plan, in_program, held, taken, plan_step, put, word_of}
use Rattle.word.specs.Table.{dest}
use Rattle.word.proofs.Ranges.{both, within_cells, within_number, within_more}
use Rattle.word.specs.Parts.{OfParts, OfNone, Exact, WordsExact}

-- the fields of a word that was put together
module _ (k d a b : ℕ) where
  put_kind : kind_of (put k d a b) ≡ k % 16
  unfolding put
  put_kind = omega arith

  put_bit27 : bit27 (put k d a b) ≡ 0
  unfolding put
  put_bit27 = omega arith

  put_d : field_d (put k d a b) ≡ d % 512
  unfolding put
  put_d = omega arith

  put_a : field_a (put k d a b) ≡ a % 512
  unfolding put
  put_a = omega arith

  put_b : field_b (put k d a b) ≡ b % 512
  unfolding put
  put_b = omega arith

  put_lt : put k d a b < 2 ^ 32
  unfolding put
  put_lt = omega arith

  -- taken apart, it is the row of its kind at its fields
  put_named : named (put k d a b) ≡ row (k % 16) (d % 512) (a % 512) (b % 512)
  unfolding named
  put_named = rw (put_bit27, put_kind, put_d, put_a, put_b)

-- a word with bit 27 zero is its fields put together
fields_put : (w : ℕ) → w < 2 ^ 32 → bit27 w ≡ 0 → put (kind_of w) (field_d w) (field_a w) (field_b w) ≡ w
unfolding put
fields_put w h z =
    let k : kind_of w % 16 ≡ kind_of w = mod-eq_of_lt ((div-lt_iff_lt-mul (pow_pos 28)).1 h) in
    simp (k, mod-mod)
    (sums w (w / 2 ^ 9) (w / 2 ^ 18) (w / 2 ^ 27) (w / 2 ^ 28) (w % 512) (w / 2 ^ 9 % 512) (w / 2 ^ 18 % 512)
    (part w 512) (at (2 ^ 9) 512) (at (2 ^ 18) 512) (at (2 ^ 27) 2 ∙ ap (λ (x : ℕ). w / 2 ^ 28 * 2 + x) z))
  where
    part : (x m : ℕ) → x ≡ x / m * m + x % m
    part x m = sym (div-add-mod' x m)

    at : (p m : ℕ) → w / p ≡ w / (p * m) * m + w / p % m
    at p m = part (w / p) m ∙ ap (λ (x : ℕ). x * m + w / p % m) (div-div-eq-div-mul w p m)

    sums : (w q₁ q₂ q₃ q₄ b a d : ℕ) → w ≡ q₁ * 512 + b → q₁ ≡ q₂ * 512 + a → q₂ ≡ q₃ * 512 + d → q₃ ≡ q₄ * 2 + 0
        → q₄ * 2 ^ 28 + d * 2 ^ 18 + a * 2 ^ 9 + b ≡ w
    sums w q₁ q₂ q₃ q₄ b a d e₁ e₂ e₃ e₄ = omega arith

-- ---- parts in range put together and taken apart are themselves

-- a kind whose row makes a step f of three parts, and of two
three_back : (k : ℕ) (f : ℕ → ℕ → ℕ → Option Step) → ((d a b : ℕ) → row (k % 16) d a b ≡ f d a b) → (d a b : ℕ) → d < 512 → a < 512 → b < 512
    → named (put k d a b) ≡ f d a b
three_back k f r d a b ld la lb = put_named k d a b ∙ rw (mod-eq_of_lt ld, mod-eq_of_lt la, mod-eq_of_lt lb) (r d a b)

two_back : (k : ℕ) (f : ℕ → ℕ → Option Step) → ((d a : ℕ) → row (k % 16) d a 0 ≡ f d a) → (d a : ℕ) → d < 512 → a < 512 → named (put k d a 0) ≡ f d a
two_back k f r d a ld la = put_named k d a 0 ∙ rw (mod-eq_of_lt ld, mod-eq_of_lt la) (r d a)

shift_small : (b : ℕ) → T (ltb b 64) → b < 512
shift_small b h = lt_of_lt_of_le (ltb→lt b 64 h) (omega arith)

back_named : (s : Step) → T (within 512 s) → named (word_of s) ≡ Some s
unfolding row
back_named (Const d k) h =
    let l : k < 2 ^ 18 = ltb→lt k (2 ^ 18) (within_number 512 (Const d k) h) in
    put_named 1 d (k / 512) k
    ∙ ap₂ (λ (x y : ℕ). Some (Const x y)) (mod-eq_of_lt (within_cells 512 (Const d k) h).0)
    (ap (λ (x : ℕ). 512 * x + k % 512) (mod-eq_of_lt ((div-lt_iff_lt-mul (pow_pos 9)).1 l)) ∙ div-add-mod k 512)
back_named (Xor d a b) h = let e = within_cells 512 (Xor d a b) h in three_back 2 (λ d a b. Some (Xor d a b)) (λ d a b. refl) d a b e.0 e.1.0 e.1.1.0
back_named (And d a b) h = let e = within_cells 512 (And d a b) h in three_back 3 (λ d a b. Some (And d a b)) (λ d a b. refl) d a b e.0 e.1.0 e.1.1.0
back_named (Not d a) h = let e = within_cells 512 (Not d a) h in two_back 4 (λ d a. Some (Not d a)) (λ d a. refl) d a e.0 e.1.0
back_named (Shl d a b) h =
    let e = within_cells 512 (Shl d a b) h in
    three_back 5 (λ d a b. Some (Shl d a b)) (λ d a b. refl) d a b e.0 e.1.0 (shift_small b (within_number 512 (Shl d a b) h))
back_named (Shr d a b) h =
    let e = within_cells 512 (Shr d a b) h in
    three_back 6 (λ d a b. Some (Shr d a b)) (λ d a b. refl) d a b e.0 e.1.0 (shift_small b (within_number 512 (Shr d a b) h))
back_named (Spread d a) h = let e = within_cells 512 (Spread d a) h in two_back 7 (λ d a. Some (Spread d a)) (λ d a. refl) d a e.0 e.1.0
back_named (Add d a b) h = let e = within_cells 512 (Add d a b) h in three_back 8 (λ d a b. Some (Add d a b)) (λ d a b. refl) d a b e.0 e.1.0 e.1.1.0
back_named (Rand d) h = put_named 9 d 0 0 ∙ ap (λ (x : ℕ). Some (Rand x)) (mod-eq_of_lt (within_cells 512 (Rand d) h).0)

word_lt : (s : Step) → word_of s < 2 ^ 32
word_lt (Const d k) = put_lt 1 d (k / 512) k
word_lt (Xor d a b) = put_lt 2 d a b
word_lt (And d a b) = put_lt 3 d a b
word_lt (Not d a) = put_lt 4 d a 0
word_lt (Shl d a b) = put_lt 5 d a b
word_lt (Shr d a b) = put_lt 6 d a b
word_lt (Spread d a) = put_lt 7 d a 0
word_lt (Add d a b) = put_lt 8 d a b
word_lt (Rand d) = put_lt 9 d 0 0

-- ---- a word that is not bad is what its parts put together again

-- a row's test, or the rows below it
pub pick : {G : Type 0} (c : Bool) (x r : Option Step) (s : Step) → (c ≡ true → x ≡ Some s → G) → (r ≡ Some s → G) → either c x r ≡ Some s → G
pick true x r s f g h = f refl h
pick false x r s f g h = g h

pub never : {G : Type 0} (s : Step) → None ≡ Some s → G
never s e = let z : ◌≡◌ {A = ℕ} 0 1 = cc in absurd (omega arith)

pub same_step : (s t : Step) → Some s ≡ Some t → s ≡ t
same_step s t e = cc

-- a constant's 18 bits are its two fields
constant : (d a b : ℕ) → a < 512 → b < 512 → put 1 d ((512 * a + b) / 512) (512 * a + b) ≡ put 1 d a b
unfolding put
constant d a b la lb =
    let e₁ : (512 * a + b) / 512 % 512 ≡ a % 512 = omega arith in
    let e₂ : (512 * a + b) % 512 ≡ b % 512 = omega arith in
    rw (e₁, e₂)

-- the word of the step that a row gives
row_word : (k d a b : ℕ) → a < 512 → b < 512 → (s : Step) → row k d a b ≡ Some s → word_of s ≡ put k d a b
unfolding row
row_word k d a b la lb s =
    pick (eqb k 1) _ _ s (λ t e. is 1 t (Const d (512 * a + b)) e (constant d a b la lb))
    (pick (eqb k 2) _ _ s (λ t e. is 2 t (Xor d a b) e refl)
    (pick (eqb k 3) _ _ s (λ t e. is 3 t (And d a b) e refl)
    (pick (eqb k 4) _ _ s (λ t. pick (eqb b 0) _ _ s (λ z e. is 4 t (Not d a) e (zero_b 4 z)) (never s))
    (pick (eqb k 5) _ _ s (λ t e. is 5 t (Shl d a b) e refl)
    (pick (eqb k 6) _ _ s (λ t e. is 6 t (Shr d a b) e refl)
    (pick (eqb k 7) _ _ s (λ t. pick (eqb b 0) _ _ s (λ z e. is 7 t (Spread d a) e (zero_b 7 z)) (never s))
    (pick (eqb k 8) _ _ s (λ t e. is 8 t (Add d a b) e refl)
    (pick (eqb k 9) _ _ s (λ t. pick (eqb a 0) _ _ s (λ y. pick (eqb b 0) _ _ s (λ z e. is 9 t (Rand d) e (zero_ab y z)) (never s)) (never s))
    (never s)))))))))
  where
    is : (i : ℕ) → eqb k i ≡ true → (x : Step) → Some x ≡ Some s → word_of x ≡ put i d a b → word_of s ≡ put k d a b
    is i t x e h = ap word_of (sym (same_step x s e)) ∙ h ∙ ap (λ (q : ℕ). put q d a b) (sym (eqb-true k i t))

    zero_b : (i : ℕ) → eqb b 0 ≡ true → put i d a 0 ≡ put i d a b
    zero_b i z = ap (put i d a) (sym (eqb-true b 0 z))

    zero_ab : eqb a 0 ≡ true → eqb b 0 ≡ true → put 9 d 0 0 ≡ put 9 d a b
    zero_ab y z = ap₂ (put 9 d) (sym (eqb-true a 0 y)) (sym (eqb-true b 0 z))

named_word : (w : ℕ) → w < 2 ^ 32 → (s : Step) → named w ≡ Some s → word_of s ≡ w
unfolding named
named_word w h s =
    pick (eqb (bit27 w) 0) _ _ s
    (λ t e. row_word (kind_of w) (field_d w) (field_a w) (field_b w) (mod-lt _ (omega arith)) (mod-lt _ (omega arith)) s e ∙ fields_put w h (eqb-true (bit27 w) 0 t))
    (never s)

-- ---- both, for any rule that keeps cells below 512
module _ (rule : Step → Bool) (cells : (s : Step) → T (rule s) → T (within 512 s)) where
  held_good : (s : Step) → T (rule s) → held rule (Some s) ≡ Some s
  held_good s h = by (rule s) h
    where
      by : (b : Bool) → T b → either b (Some s) None ≡ Some s
      by true h = refl
      by false h = absurd h

  back : (s : Step) → T (rule s) → taken rule (word_of s) ≡ Some s
  back s h = ap (held rule) (back_named s (cells s h)) ∙ held_good s h

  every : (w : ℕ) → w < 2 ^ 32 → OfParts rule w ⊎ OfNone rule w
  every w h = by (named w) refl
    where
      none : taken rule w ≡ None → OfNone rule w
      none e = record { apart = e; none = λ s r t. never s (sym e ∙ ap (taken rule) (sym t) ∙ back s r) }

      by : (d : Option Step) → named w ≡ d → OfParts rule w ⊎ OfNone rule w
      by (Some s) e = test (rule s) refl
        where
          test : (b : Bool) → rule s ≡ b → OfParts rule w ⊎ OfNone rule w
          test true r =
              let ok : T (rule s) = rw r tt in
              inl (record { step = s; apart = ap (held rule) e ∙ held_good s ok; in_range = ok; together = named_word w h s e })
          test false r = inr (none (ap (held rule) e ∙ ap (λ (b : Bool). either b (Some s) None) r))
      by None e = inr (none (ap (held rule) e))

  pub exact : Exact rule
  exact = record { back = λ s h. (word_lt s, back s h); every = every }

-- for plans and for share programs
pub plan_exact : Exact in_plan
plan_exact = exact in_plan (λ s h. within_more 32 512 (omega arith) s (both (not (eqb (kind_number s) 9)) (within 32 s) h).1)

pub program_exact : Exact in_program
program_exact = exact in_program (λ s h. (both (not (eqb (kind_number s) 8)) (within 512 s) h).1)

-- what is taken apart keeps the rule
pub taken_rule : (rule : Step → Bool) (w : ℕ) (s : Step) → taken rule w ≡ Some s → T (rule s)
taken_rule rule w s = by (named w)
  where
    by : (d : Option Step) → held rule d ≡ Some s → T (rule s)
    by (Some t) = pick (rule t) (Some t) None s (λ r e. rw (← (same_step t s e), r) tt) (never s)
    by None = never s

-- the cell that a step sets is the word's field d
row_dest : (k d a b : ℕ) (s : Step) → row k d a b ≡ Some s → dest s ≡ d
unfolding row
row_dest k d a b s =
    pick (eqb k 1) _ _ s (λ t. is (Const d (512 * a + b)) refl)
    (pick (eqb k 2) _ _ s (λ t. is (Xor d a b) refl)
    (pick (eqb k 3) _ _ s (λ t. is (And d a b) refl)
    (pick (eqb k 4) _ _ s (λ t. pick (eqb b 0) _ _ s (λ z. is (Not d a) refl) (never s))
    (pick (eqb k 5) _ _ s (λ t. is (Shl d a b) refl)
    (pick (eqb k 6) _ _ s (λ t. is (Shr d a b) refl)
    (pick (eqb k 7) _ _ s (λ t. pick (eqb b 0) _ _ s (λ z. is (Spread d a) refl) (never s))
    (pick (eqb k 8) _ _ s (λ t. is (Add d a b) refl)
    (pick (eqb k 9) _ _ s (λ t. pick (eqb a 0) _ _ s (λ y. pick (eqb b 0) _ _ s (λ z. is (Rand d) refl) (never s)) (never s))
    (never s)))))))))
  where
    is : (x : Step) → dest x ≡ d → Some x ≡ Some s → dest s ≡ d
    is x h e = ap dest (sym (same_step x s e)) ∙ h

pub named_dest : (w : ℕ) (s : Step) → named w ≡ Some s → dest s ≡ field_d w
unfolding named
named_dest w s = pick (eqb (bit27 w) 0) _ _ s (λ t. row_dest (kind_of w) (field_d w) (field_a w) (field_b w) s) (never s)

-- so a plan's word is bad where its field d is no register
pub no_register : (w : ℕ) → 32 ≤ field_d w → plan_step w ≡ None
no_register w h = by (named w) (named_dest w)
  where
    by : (d : Option Step) → ((s : Step) → d ≡ Some s → dest s ≡ field_d w) → held in_plan d ≡ None
    by (Some s) f = test (in_plan s) refl
      where
        test : (b : Bool) → in_plan s ≡ b → either b (Some s) None ≡ None
        test true r =
            let l = (within_cells 32 s (both (not (eqb (kind_number s) 9)) (within 32 s) (rw r tt)).1).0 in
            absurd (omega (arith, f s refl))
        test false r = refl
    by None f = refl

pub words_exact : WordsExact
words_exact = record { plans = plan_exact; programs = program_exact }
