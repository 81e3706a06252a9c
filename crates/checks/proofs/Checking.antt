-- The search for the first bad word, over any way of taking words apart: its turns, and that the place found is that of the first bad word.
use Rattle.std.specs.Prelude.{Option, Some, None}
use mathlib.Core.Bool.{Bool, true, false, cond}
use mathlib.Core.Path.{◌≡◌, refl, sym, ap, subst, ◌∙◌}
use mathlib.Core.List.{List, [], ◌∷◌}
use Prim.Native.Nat.{ℕ, zero, suc, ◌+◌, ◌≤◌, ◌<◌}
use native.Mathlib.Nat.{add-zero}
use native.Mathlib.Numerals.{add-one}
use native.Mathlib.Omega.{arith}
use lib.Dec.{ltb}
use lib.ListN.{length, get_or, drop, drop_of_length-le}
use lib.Seq.{drop-cons}
use borrow.Author.Tests.{ltb-true, ltb-false}
use Rattle.word.specs.declared.step.Step.{Step}
use Rattle.checks.specs.Reader.{read_at}
use Rattle.checks.specs.Answers.{first_of, first_bad, good_read, FirstBad, FirstBadFound}
use Rattle.word.specs.Encoding.{is_good}

module _ (l : List ℕ) (i : ℕ) where
  -- what a reader's finding at place i says of the list
  abbrev pub Says : Option ℕ → Type 0
  Says (Some w) = (i < length l) × (get_or l i 0 ≡ w)
  Says None = length l ≤ i

  pub says : (r : Option ℕ) → read_at l i ≡ r → Says r
  says r e = subst Says e (by (ltb i (length l)) refl)
    where
      by : (b : Bool) → ltb i (length l) ≡ b → Says (cond b (Some (get_or l i 0)) None)
      by true t = (ltb-true i (length l) t, refl)
      by false t = ltb-false i (length l) t

module _ (step : ℕ → Option Step) (l : List ℕ) (i : ℕ) where
  -- what the loop keeps: no word before place i is bad
  abbrev pub Passed : Type 0
  Passed = first_bad step l ≡ i + first_bad step (drop i l)

  -- a good word is passed
  pub passed_one : Passed → i < length l → {s : Step} → step (get_or l i 0) ≡ Some s → first_bad step l ≡ i + 1 + first_bad step (drop (i + 1) l)
  passed_one h lt {s} e =
      h ∙ ap (λ (r : List ℕ). i + first_bad step r) (drop-cons l i 0 lt)
      ∙ ap (λ (d : Option Step). i + first_of d (first_bad step (drop (suc i) l))) e
      ∙ ap (λ (k : ℕ). i + suc (first_bad step (drop k l))) (sym (add-one i)) ∙ omega arith

  -- the search ends at a bad word
  pub at_bad : Passed → i < length l → step (get_or l i 0) ≡ None → i ≡ first_bad step l
  at_bad h lt e =
      sym (h ∙ ap (λ (r : List ℕ). i + first_bad step r) (drop-cons l i 0 lt) ∙ ap (λ (d : Option Step). i + first_of d (first_bad step (drop (suc i) l))) e ∙ add-zero i)

  -- or at the end
  pub at_end : Passed → length l ≤ i → i ≡ first_bad step l
  at_end h le = sym (h ∙ ap (λ (r : List ℕ). i + first_bad step r) (drop_of_length-le l le) ∙ add-zero i)

-- the turns of a search that asks of what a reader finds at its place whether it is a good word
good_step : (d : Option Step) → is_good d ≡ true → (s : Step) × (d ≡ Some s)
good_step (Some s) e = (s, refl)
good_step None e = let z : ◌≡◌ {A = ℕ} 0 1 = ap (λ (b : Bool). cond {A = ℕ} b 1 0) e in absurd (omega arith)

bad_step : (d : Option Step) → is_good d ≡ false → d ≡ None
bad_step (Some s) e = let z : ◌≡◌ {A = ℕ} 1 0 = ap (λ (b : Bool). cond {A = ℕ} b 1 0) e in absurd (omega arith)
bad_step None e = refl

module _ (step : ℕ → Option Step) (l : List ℕ) (i : ℕ) (h : Passed step l i) where
  -- it is: its place is before the end, and it is passed
  pub asked_one : good_read step (read_at l i) ≡ true → (i < length l) × Passed step l (i + 1)
  asked_one = by (read_at l i) refl
    where
      by : (r : Option ℕ) → read_at l i ≡ r → good_read step r ≡ true → (i < length l) × Passed step l (i + 1)
      by (Some w) e g =
          let s = says l i (Some w) e in
          let q = good_step (step (get_or l i 0)) (ap (λ (x : ℕ). is_good (step x)) s.1 ∙ g) in
          (s.0, passed_one step l i h s.0 q.1)
      by None e g = let z : ◌≡◌ {A = ℕ} 0 1 = ap (λ (b : Bool). cond {A = ℕ} b 1 0) g in absurd (omega arith)

  -- it is not: the search ends there
  pub asked_end : good_read step (read_at l i) ≡ false → i ≡ first_bad step l
  asked_end = by (read_at l i) refl
    where
      by : (r : Option ℕ) → read_at l i ≡ r → good_read step r ≡ false → i ≡ first_bad step l
      by (Some w) e g =
          let s = says l i (Some w) e in
          at_bad step l i h s.0 (bad_step (step (get_or l i 0)) (ap (λ (x : ℕ). is_good (step x)) s.1 ∙ g))
      by None e g = at_end step l i h (says l i None e)

-- the place is that of the first bad word, and the end only where there is none
pub first_bad_is : FirstBadFound
first_bad_is step [] = record { within = omega arith; good = λ k h. absurd (omega arith); bad = λ h. absurd (omega arith) }
first_bad_is step (w ∷ ws) = by (step w) refl (first_bad_is step ws)
  where
    by : (d : Option Step) → step w ≡ d → FirstBad step ws (first_bad step ws) → FirstBad step (w ∷ ws) (first_of d (first_bad step ws))
    by (Some s) e r =
        record {
          within = omega (arith, r.within);
          good = λ k h. earlier k h;
          bad = λ h. r.bad (omega arith);
        }
      where
        earlier : (k : ℕ) → k < suc (first_bad step ws) → (t : Step) × (step (get_or (w ∷ ws) k 0) ≡ Some t)
        earlier zero h = (s, e)
        earlier (suc k) h = r.good k (omega arith)
    by None e r = record { within = omega arith; good = λ k h. absurd (omega arith); bad = λ h. e }
