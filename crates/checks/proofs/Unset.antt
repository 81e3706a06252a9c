-- The search for a word that reads a register neither known nor written before: the place found is that of the first such word, and what the test
-- that there is none says of a plan's first word and of the rest. Rests on word's Ranges for tests over lists.
use Rattle.std.specs.Prelude.{Option, Some, None}
use mathlib.Core.Path.{◌≡◌, refl, sym, ap, subst, ◌∙◌}
use mathlib.Core.Bool.{Bool, true, false, cond}
use mathlib.Core.List.{List, [], ◌∷◌}
use Prim.Native.Nat.{ℕ, zero, suc, ◌<◌}
use native.Mathlib.Omega.{arith}
use lib.Dec.{T, eqb→eq, eqb_refl}
use lib.ListN.{length, get_or, take}
use Rattle.word.specs.declared.step.Step.{Step}
use Rattle.word.specs.Encoding.{plan_step}
use Rattle.word.specs.Table.{dest, reads, all_in}
use Rattle.word.proofs.Ranges.{tested_each, each_tested}
use Rattle.checks.specs.Unset.{member_of, written, known_after, unset_of, first_unset, reads_only, ReadsOf, FirstUnset, FirstUnsetFound}

is_true : (b : Bool) → T b → b ≡ true
is_true true h = refl
is_true false h = absurd h

-- ---- a word of the search
module _ (known : List ℕ) (w : ℕ) (ws : List ℕ) where
  -- past a step that reads known registers it goes on
  goes_on : (s : Step) → plan_step w ≡ Some s → ReadsOf known s → first_unset known (w ∷ ws) ≡ suc (first_unset (dest s ∷ known) ws)
  goes_on s e h =
      ap (λ (d : Option Step). unset_of d known (λ ks. first_unset ks ws)) e
      ∙ ap (λ (b : Bool). cond b (suc (first_unset (dest s ∷ known) ws)) 0) (is_true (all_in (member_of known) (reads s)) (each_tested (member_of known) (reads s) h))

  known_on : (s : Step) → plan_step w ≡ Some s → (k : ℕ) → known_after (take k ws) (dest s ∷ known) ≡ known_after (take (suc k) (w ∷ ws)) known
  known_on s e k = ap (λ (d : Option Step). known_after (take k ws) (written d known)) (sym e)

  -- it ends there
  ends : first_unset known (w ∷ ws) ≡ 0 → FirstUnset known (w ∷ ws) 0
  ends z =
      record {
        within = omega arith;
        set = λ k h. absurd (omega arith);
        unset = λ h s e r. let n : 0 ≡ suc (first_unset (dest s ∷ known) ws) = sym z ∙ goes_on s e r in absurd (omega arith);
      }

-- the place is that of the first word that reads so, and the end only where there is none
pub first_unset_is : FirstUnsetFound
first_unset_is known [] = record { within = omega arith; set = λ k h. absurd (omega arith); unset = λ h. absurd (omega arith) }
first_unset_is known (w ∷ ws) = by (plan_step w) refl (λ ks. first_unset_is ks ws)
  where
    by : (d : Option Step) → plan_step w ≡ d → ((ks : List ℕ) → FirstUnset ks ws (first_unset ks ws)) → FirstUnset known (w ∷ ws) (unset_of d known (λ ks. first_unset ks ws))
    by (Some s) e rest = at (all_in (member_of known) (reads s)) refl
      where
        r : FirstUnset (dest s ∷ known) ws (first_unset (dest s ∷ known) ws)
        r = rest (dest s ∷ known)

        earlier : all_in (member_of known) (reads s) ≡ true → (k : ℕ) → k < suc (first_unset (dest s ∷ known) ws)
            → (t : Step) × (plan_step (get_or (w ∷ ws) k 0) ≡ Some t) × ReadsOf (known_after (take k (w ∷ ws)) known) t
        earlier q zero h = (s, e, tested_each (member_of known) (reads s) (rw q tt))
        earlier q (suc k) h =
            let g = r.set k (omega arith) in
            (g.0, g.1, subst (λ (ks : List ℕ). ReadsOf ks g.0) (known_on known w ws s e k) g.2)

        at : (b : Bool) → all_in (member_of known) (reads s) ≡ b → FirstUnset known (w ∷ ws) (cond b (suc (first_unset (dest s ∷ known) ws)) 0)
        at true q =
            record {
              within = omega (arith, r.within);
              set = earlier q;
              unset = λ h t f x.
                  r.unset (omega arith) t f (subst (λ (ks : List ℕ). ReadsOf ks t) (sym (known_on known w ws s e (first_unset (dest s ∷ known) ws))) x);
            }
        at false q = ends known w ws (ap (λ (d : Option Step). unset_of d known (λ ks. first_unset ks ws)) e ∙ ap (λ (b : Bool). cond b (suc (first_unset (dest s ∷ known) ws)) 0) q)
    by None e rest = ends known w ws (ap (λ (d : Option Step). unset_of d known (λ ks. first_unset ks ws)) e)

-- ---- the test
-- a plan that passes: its first word is a step that reads known registers, and the rest passes with the register that it writes known
pub record PassesOn (known : List ℕ) (w : ℕ) (ws : List ℕ) : Type 0 where
  pub step : Step
  pub apart : plan_step w ≡ Some step
  pub reads_known : T (all_in (member_of known) (reads step))
  pub rest : T (reads_only ws (dest step ∷ known))

pub passes_on : (known : List ℕ) (w : ℕ) (ws : List ℕ) → T (reads_only (w ∷ ws) known) → PassesOn known w ws
passes_on known w ws h =
    let e = eqb→eq (first_unset known (w ∷ ws)) (suc (length ws)) h in
    let g = (first_unset_is known (w ∷ ws)).set 0 (omega (arith, e)) in
    let n : suc (first_unset (dest g.0 ∷ known) ws) ≡ suc (length ws) = sym (goes_on known w ws g.0 g.1 g.2) ∙ e in
    let m : first_unset (dest g.0 ∷ known) ws ≡ length ws = omega arith in
    record { step = g.0; apart = g.1; reads_known = each_tested (member_of known) (reads g.0) g.2; rest = rw m (eqb_refl (length ws)) }
