-- A share run's answer by its halves, the check of its program and the rest. Of the check: that it passes (`Taken`) for good words behind the head
-- for the reader's count, and so for a translation, that it does not for another count (`Turned`), and that what comes next is the answer where
-- that is done. Of the rest: what it is from places inside program and tape, what
-- it says where it is done, and that its counts never pass what is left. All that is proved of runs goes by these.
-- Rests on checks_run's RunChecked for the first half, on Counts for a translation's words.
use mathlib.Core.Path.{◌≡◌, refl, ap, ◌∙◌}
use mathlib.Core.Bool.{Bool, true, false, not, ◌||◌, cond}
use mathlib.Core.List.{List, ◌∷◌}
use Prim.Native.Nat.{ℕ, suc, ◌-◌, ◌≤◌, min}
use native.Mathlib.Nat.{le_trans, le_of_eq, min-le_right}
use native.Mathlib.Omega.{arith}
use lib.Dec.{ltb, eqb}
use lib.ListN.{length, drop, length-take, length-drop}
use borrow.Author.Tests.{ltb-false, le-ltb, le-leb, eq-eqb, ne_eqb, eqb-true, not-false}
use Rattle.checks.specs.declared.answer.Answer.{Answer}
use Rattle.checks.specs.Answers.{first_bad, done, refused, given}
use Rattle.checks_run.specs.RunCheck.{run_checked}
use Rattle.checks_run.proofs.RunChecked.{run_next, run_passes}
use Rattle.checks.proofs.Passed.{passed}
use Rattle.word.specs.Encoding.{program_step}
use Rattle.word.specs.Layout.{is_share_count, program_max, headed_max}
use Rattle.word.specs.Head.{head_word}
use Rattle.word.proofs.Small.{share_range}
use Rattle.word.proofs.Head.{heads_differ}
use Rattle.masking.specs.Translation.{program, headed}
use Rattle.masking.specs.Foretold.{Accepted}
use Rattle.masking.specs.Machine.{rands}
use Rattle.masking.specs.Runs.{State, due, run_rest}
use Rattle.masking.proofs.emitted.Counts.{plan_counts}

-- ---- the check of a run's program

-- it passes for a run told n: whatever comes next is the answer
abbrev pub Taken : ℕ → List ℕ → Type 0
Taken n P = (rest : Answer) → run_checked n P rest ≡ rest

-- and for a run told another count it does not: 8, or 1 where that is no share count
abbrev pub Turned : ℕ → List ℕ → Type 0
Turned n P = (k : ℕ) → (k ≡ n → ⊥) → (rest : Answer) → run_checked k P rest ≡ refused (cond (is_share_count k) 8 1)

module _ (n : ℕ) (P : List ℕ) (least : 2 ≤ n) (most : n ≤ 8) (short : length P ≤ program_max) where
  -- good words behind the head for n
  pub good_taken : first_bad program_step P ≡ length P → Taken n (head_word n ∷ P)
  good_taken good =
      run_next n (head_word n ∷ P) (record {
        count = rw (le-leb 2 n least, le-leb n 8 most);
        short = omega (arith, short);
        head = eq-eqb (head_word n) (head_word n) refl;
        good = omega (arith, good);
      })

  pub other_turned : Turned n (head_word n ∷ P)
  unfolding run_checked
  other_turned k o rest = by (is_share_count k) refl
    where
      by : (b : Bool) → is_share_count k ≡ b → run_checked k (head_word n ∷ P) rest ≡ refused (cond b 8 1)
      by false e = rw e
      by true e =
          rw (
            e,
            le-ltb headed_max (suc (length P)) (omega (arith, short)),
            ne_eqb (head_word n) (head_word k) (heads_differ n k most (share_range k e).1 o),
          )

module _ (n : ℕ) (plan : List ℕ) (A : Accepted n plan) where
  pub translated_taken : Taken n (headed n plan)
  translated_taken = good_taken n (program n plan) A.least A.most (plan_counts n plan A).longest (plan_counts n plan A).good

  pub translated_turned : Turned n (headed n plan)
  translated_turned = other_turned n (program n plan) A.least A.most (plan_counts n plan A).longest

-- an answer that is done is what comes next
pub done_rest : (n : ℕ) (P : List ℕ) (rest : Answer) → (run_checked n P rest).number ≡ 0 → run_checked n P rest ≡ rest
done_rest n P rest z = run_next n P (run_passes n P rest z).0 rest

-- ---- the rest

-- "the smaller of budget and words left"
pub due_length : (P : List ℕ) (m b : ℕ) → length (due P m b) ≡ min b (length P - m)
due_length P m b = length-take b (drop m P) ∙ ap (min b) (length-drop m P)

neither : (p q : Bool) → (p || q) ≡ false → (p ≡ false) × (q ≡ false)
neither true q e = let z : true ≡ false = e in (cc, cc)
neither false q e = (refl, e)

module _ (P tape : List ℕ) (st : State) (b : ℕ) where
  abbrev taking : ℕ
  taking = rands (due P st.place b)

  abbrev left : ℕ
  left = length tape - st.tape_place

  -- over 512 cells, from places inside, only the tape can be too short
  pub rest_inside : length st.cells ≡ 512 → st.place ≤ length P → st.tape_place ≤ length tape
      → run_rest P tape st b ≡ given (ltb left taking) (refused 6) (done (length (due P st.place b)) taking)
  rest_inside size within in_tape =
      rw (eq-eqb (length st.cells) 512 size, le-ltb (length P) st.place within, le-ltb (length tape) st.tape_place in_tape)

  -- what it says where it is done
  pub record RestDone : Type 0 where
    pub size : length st.cells ≡ 512
    pub within : st.place ≤ length P
    pub in_tape : st.tape_place ≤ length tape
    pub enough : taking ≤ left
    pub words : (run_rest P tape st b).words ≡ min b (length P - st.place)

  pub rest_done : (run_rest P tape st b).number ≡ 0 → RestDone
  rest_done z =
      let p₄ = passed (not (eqb (length st.cells) 512)) (refused 4) _ (λ h. omega arith) z in
      let p₅ = passed (ltb (length P) st.place || ltb (length tape) st.tape_place) (refused 5) _ (λ h. omega arith) p₄.1 in
      let p₆ = passed (ltb left taking) (refused 6) _ (λ h. omega arith) p₅.1 in
      let in₅ = neither (ltb (length P) st.place) (ltb (length tape) st.tape_place) p₅.0 in
      record {
        size = eqb-true (length st.cells) 512 (not-false (eqb (length st.cells) 512) p₄.0);
        within = ltb-false (length P) st.place in₅.0;
        in_tape = ltb-false (length tape) st.tape_place in₅.1;
        enough = ltb-false left taking p₆.0;
        words = rw (p₄.0, p₅.0, p₆.0) (due_length P st.place b);
      }

  -- its counts never pass what is left
  Within : Answer → Type 0
  Within a = (a.words ≤ length P - st.place) × (a.tape ≤ left)

  either_way : (c : Bool) (number : ℕ) (next : Answer) → (c ≡ false → Within next) → Within (given c (refused number) next)
  unfolding Within
  either_way true number next g = (omega arith, omega arith)
  either_way false number next g = g refl

  pub rest_within : ((run_rest P tape st b).words ≤ length P - st.place) × ((run_rest P tape st b).tape ≤ length tape - st.tape_place)
  unfolding Within
  rest_within =
      either_way (not (eqb (length st.cells) 512)) 4 _ λ e₄.
      either_way (ltb (length P) st.place || ltb (length tape) st.tape_place) 5 _ λ e₅.
      either_way (ltb left taking) 6 _ λ e₆.
      (le_trans (le_of_eq (due_length P st.place b)) (min-le_right b (length P - st.place)), ltb-false left taking e₆)
