-- Steps on registers that read only registers of a set R and those written before: a computed test. Laid-out plan steps pass it where R
-- has the plan's registers, since ADD writes each helper before reading it.
use mathlib.Core.Path.{◌≡◌, refl}
use mathlib.Core.Bool.{Bool, true, false, ◌&&◌, ◌||◌}
use mathlib.Core.List.{List, [], ◌∷◌, ◌++◌}
use mathlib.Core.Logic.{⊎_elim}
use Prim.Native.Nat.{ℕ, ◌<◌}
use native.Mathlib.Omega.{arith}
use lib.Dec.{T, ltb, ltb→lt, lt→ltb, eqb}
use borrow.Author.Tests.{lt-ltb}
use Rattle.word.specs.declared.step.Step.{Step}
use Rattle.word.specs.declared.step.Step.TheVariants.{Const, Xor, And, Not, Shl, Shr, Spread, Add, Rand}
use Rattle.word.specs.Encoding.{in_plan, within}
use Rattle.word.specs.Table.{dest, reads, all_in}
use Rattle.masking.specs.Translation.{adding, laid_out}
use Rattle.word.proofs.Ranges.{both, join, each_of, each_tested, within_cells}
use Rattle.masking.proofs.emitted.Tests.{or_right}
use Rattle.masking.proofs.secret.Meeting.{In}
use Rattle.masking.proofs.secret.Registers.{adds}

-- the kinds that have a block of share steps: ADD is laid out first
abbrev pub on_shares : Step → Bool
on_shares (Const d k) = true
on_shares (Xor d a b) = true
on_shares (And d a b) = true
on_shares (Not d a) = true
on_shares (Shl d a b) = true
on_shares (Shr d a b) = true
on_shares (Spread d a) = true
on_shares (Add d a b) = false
on_shares (Rand d) = false

module _ (w : ℕ) where
  -- a step reads registers of R, and sets one of the w
  abbrev pub readable : (ℕ → Bool) → Step → Bool
  readable R s = on_shares s && (ltb (dest s) w && all_in (λ r. ltb r w && R r) (reads s))

  abbrev pub reading : (ℕ → Bool) → List Step → Bool
  reading R [] = true
  reading R (s ∷ ss) = readable R s && reading (adds (dest s) R) ss

  known_in : (R : ℕ → Bool) (rs : List ℕ) → T (all_in (λ r. ltb r w && R r) rs) → (r : ℕ) → In r rs → (r < w) × T (R r)
  known_in R [] h r q = absurd q
  known_in R (x ∷ rs) h r q =
      let e = both (ltb x w && R x) (all_in (λ r. ltb r w && R r) rs) h in
      let f = both (ltb x w) (R x) e.0 in
      ⊎_elim (λ (o : r ≡ x). rw o (ltb→lt x w f.0, f.1)) (λ (o : In r rs). known_in R rs e.1 r o) q

  pub readable_parts : (R : ℕ → Bool) (s : Step) → T (readable R s) → (dest s < w) × ((r : ℕ) → In r (reads s) → (r < w) × T (R r))
  readable_parts R s h =
      let e = both (on_shares s) (ltb (dest s) w && all_in (λ r. ltb r w && R r) (reads s)) h in
      let f = both (ltb (dest s) w) (all_in (λ r. ltb r w && R r) (reads s)) e.1 in
      (ltb→lt (dest s) w f.0, known_in R (reads s) f.1)

  pub reading_append : (R : ℕ → Bool) (xs ys : List Step) → T (reading R xs)
      → ((R' : ℕ → Bool) → ((r : ℕ) → T (R r) → T (R' r)) → T (reading R' ys)) → T (reading R (xs ++ ys))
  reading_append R [] ys h g = g R (λ r x. x)
  reading_append R (s ∷ xs) ys h g =
      let e = both (readable R s) (reading (adds (dest s) R) xs) h in
      join (readable R s) (reading (adds (dest s) R) (xs ++ ys)) e.0
      (reading_append (adds (dest s) R) xs ys e.1 (λ R' f. g R' (λ r x. f r (or_right (eqb r (dest s)) (R r) x))))

-- ---- a plan's step laid out
is_true : (b : Bool) → T b → b ≡ true
is_true true h = refl
is_true false h = absurd h

or_true : (b : Bool) → (b || true) ≡ true
or_true true = refl
or_true false = refl

adding_reading : (R : ℕ → Bool) (d a b : ℕ) → ltb d 40 ≡ true → ltb a 40 ≡ true → R a ≡ true → ltb b 40 ≡ true → R b ≡ true → T (reading 40 R (adding d a b))
unfolding adding
adding_reading R d a b ld la ka lb kb =
    rw (la, lb, ka, kb, or_true (eqb a 32), or_true (eqb b 32), ld) tt

-- where R has the plan's registers
module _ (R : ℕ → Bool) (has32 : (r : ℕ) → r < 32 → T (R r)) where
  step_reading : (s : Step) → T (on_shares s) → T (within 32 s) → T (reading 40 R (s ∷ []))
  step_reading s o h =
      let e = within_cells 32 s h in
      join (readable 40 R s) true
      (join (on_shares s) (ltb (dest s) 40 && all_in (λ r. ltb r 40 && R r) (reads s)) o
      (join (ltb (dest s) 40) (all_in (λ r. ltb r 40 && R r) (reads s)) (low (dest s) e.0)
      (each_tested (λ r. ltb r 40 && R r) (reads s)
      (each_of (λ r. r < 32) (λ r. T (ltb r 40 && R r)) (λ r l. join (ltb r 40) (R r) (low r l) (has32 r l)) (reads s) e.1)))) tt
    where
      low : (r : ℕ) → r < 32 → T (ltb r 40)
      low r l = lt→ltb r 40 (omega arith)

  pub laid_reading : (s : Step) → T (in_plan s) → T (reading 40 R (laid_out s))
  laid_reading (Const d k) h = step_reading (Const d k) tt h
  laid_reading (Xor d a b) h = step_reading (Xor d a b) tt h
  laid_reading (And d a b) h = step_reading (And d a b) tt h
  laid_reading (Not d a) h = step_reading (Not d a) tt h
  laid_reading (Shl d a b) h = step_reading (Shl d a b) tt h
  laid_reading (Shr d a b) h = step_reading (Shr d a b) tt h
  laid_reading (Spread d a) h = step_reading (Spread d a) tt h
  laid_reading (Add d a b) h =
      let e = within_cells 32 (Add d a b) h in
      adding_reading R d a b (low d e.0) (low a e.1.0) (is_true (R a) (has32 a e.1.0)) (low b e.1.1.0) (is_true (R b) (has32 b e.1.1.0))
    where
      low : (r : ℕ) → r < 32 → ltb r 40 ≡ true
      low r l = lt-ltb r 40 (omega arith)
  laid_reading (Rand d) h = absurd h
