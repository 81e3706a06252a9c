-- The head of a share program is no step: the words behind it do what they do without it, and a step over it does nothing.
-- Rests on word's Head.
use Rattle.std.specs.Prelude.{Option}
use mathlib.Core.Path.{◌≡◌, refl, ap, ◌∙◌}
use mathlib.Core.Bool.{Bool, true, false, not, ◌||◌}
use mathlib.Core.List.{List, [], ◌∷◌}
use Prim.Native.Nat.{ℕ, ◌+◌, ◌-◌, ◌≤◌}
use native.Mathlib.Omega.{arith}
use lib.Dec.{T, ltb, eqb}
use lib.ListN.{length, drop}
use borrow.Author.Tests.{le-ltb}
use Rattle.word.specs.declared.step.Step.{Step}
use Rattle.word.specs.Encoding.{program_step}
use Rattle.word.specs.Head.{head_word, is_head}
use Rattle.word.specs.Layout.{is_share_count, headed_max}
use Rattle.word.proofs.Head.{head_kind, head_count, head_rest, head_bad, head_is, head_only, kind_10_bad}
use Rattle.checks.specs.Answers.{first_bad, done, refused, bad_at, given, kept_unless}
use Rattle.checks_run.specs.RunCheck.{has_head, first_bad_behind, run_checked}
use Rattle.masking.specs.Machine.{with_step, steps_of, exec, exec_steps, rands, rands_of}
use Rattle.masking.specs.Runs.{standing, due, step_answer}
use Rattle.masking.specs.Head.{HeadHolds, HeadsHold}
use Rattle.masking.proofs.OneRun.{rest_inside}

module _ (n : ℕ) (most : n ≤ 8) where
  pub no_step : (words : List ℕ) → steps_of (head_word n ∷ words) ≡ steps_of words
  no_step words = ap (λ (d : Option Step). with_step d (steps_of words)) (head_bad n most)

  pub head_exec : (words tape cells : List ℕ) → exec (head_word n ∷ words) tape cells ≡ exec words tape cells
  head_exec words tape cells = ap (λ (ss : List Step). exec_steps ss tape cells) (no_step words)

  pub head_rands : (words : List ℕ) → rands (head_word n ∷ words) ≡ rands words
  head_rands words = ap rands_of (no_step words)

kept_same : (b : Bool) (l : List ℕ) → kept_unless b l l ≡ l
kept_same true l = refl
kept_same false l = refl

true_of : (b : Bool) → T b → b ≡ true
true_of true t = refl
true_of false t = absurd t

-- a run's 3 has a place behind the head
bad_behind : (p₁ p₂ p₈ p₃ p₄ p₅ p₆ : Bool) (k w u : ℕ) →
    let a = given p₁ (refused 1) (given p₂ (refused 2) (given p₈ (refused 8) (given p₃ (bad_at (1 + k)) (given p₄ (refused 4) (given p₅ (refused 5) (given p₆ (refused 6) (done w u))))))) in
    a.number ≡ 3 → 1 ≤ a.place
bad_behind true p₂ p₈ p₃ p₄ p₅ p₆ k w u e = absurd (omega (arith, e))
bad_behind false true p₈ p₃ p₄ p₅ p₆ k w u e = absurd (omega (arith, e))
bad_behind false false true p₃ p₄ p₅ p₆ k w u e = absurd (omega (arith, e))
bad_behind false false false true p₄ p₅ p₆ k w u e = omega arith
bad_behind false false false false true p₅ p₆ k w u e = absurd (omega (arith, e))
bad_behind false false false false false true p₆ k w u e = absurd (omega (arith, e))
bad_behind false false false false false false true k w u e = absurd (omega (arith, e))
bad_behind false false false false false false false k w u e = absurd (omega (arith, e))

each : (n : ℕ) → 2 ≤ n → n ≤ 8 → HeadHolds n
each n least most =
    record {
      kind = head_kind n most;
      count = head_count n most;
      zero = head_rest n most;
      head = rw (head_is n least most) tt;
      cells = head_exec n most;
      tape = head_rands n most;
      step = λ tape cells place size inside.
          rw (head_is n least most)
          (rest_inside (head_word n ∷ []) tape (standing cells 0 place) 1 size (omega arith) inside ∙ rw (head_rands n most [], le-ltb (length tape - place) 0 (omega arith)));
      step_cells_is = λ tape cells place.
          ap (λ (after : List ℕ). kept_unless (eqb (step_answer (head_word n) tape cells place).number 0) after cells) (head_exec n most [] (drop place tape) cells)
          ∙ kept_same (eqb (step_answer (head_word n) tape cells place).number 0) cells;
    }

pub heads_hold : HeadsHold
unfolding run_checked
heads_hold =
    record {
      each = each;
      only = λ w t. head_only w (true_of (is_head w) t);
      past = kind_10_bad;
      behind = λ program tape st run.
          bad_behind (not (is_share_count run.count)) (ltb headed_max (length program)) (not (has_head run.count program)) (ltb (first_bad_behind program) (length program))
          (not (eqb (length st.cells) 512)) (ltb (length program) st.place || ltb (length tape) st.tape_place)
          (ltb (length tape - st.tape_place) (rands (due program st.place run.budget))) (first_bad program_step (drop 1 program)) _ _;
    }
