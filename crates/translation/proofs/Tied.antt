-- Translate's calls and demand 3 tied together. Rests on masking's counts and `demand3`.
use mathlib.Core.Path.{◌≡◌, ap, ◌∙◌}
use mathlib.Core.List.{List, ◌++◌}
use Prim.Native.Nat.{ℕ, ◌+◌, ◌≤◌}
use native.Mathlib.Omega.{arith}
use lib.Dec.{eqb}
use lib.ListN.{length, take, drop}
use lib.Seq.{take_at}
use borrow.Author.Tests.{le-leb, le-ltb}
use Rattle.checks.specs.declared.answer.Answer.{Answer}
use Rattle.checks.specs.Answers.{kept_unless}
use Rattle.checks.proofs.Checked.{plan_check}
use Rattle.masking.specs.Translation.{headed}
use Rattle.masking.specs.Foretold.{Accepted, foretold_words}
use Rattle.masking.proofs.emitted.Counts.{plan_counts}
use Rattle.masking.proofs.Demand3.{demand3}
use Rattle.translation.specs.Calls.{plan_for, measured, translate_answer, translate_out}
use Rattle.translation.specs.Tied.{Tied, TranslateTied}
use Rattle.translation.proofs.Counted.{accepted, enough}

takes : (n : ℕ) (plan : List ℕ) (room : ℕ) → Accepted n plan → 1 + foretold_words n plan ≤ room → translate_answer n plan room ≡ measured n plan
unfolding plan_for
takes n plan room A h =
    rw (le-leb 2 n A.least, le-leb n 8 A.most)
    (plan_check.next plan (record { short = A.short; good = A.good }) _ ∙ rw (le-ltb room (1 + foretold_words n plan) h))

done : (n : ℕ) (plan out : List ℕ) → (translate_answer n plan (length out)).number ≡ 0 → Tied n plan out
done n plan out h =
    let A = accepted n plan _ h in
    let a = takes n plan (length out) A (enough n plan (length out) h) in
    let P = headed n plan in
    let whole : translate_out n plan out ≡ P ++ drop (length P) out = ap (λ (k : ℕ). kept_unless (eqb k 0) (P ++ drop (length P) out) out) h in
    record {
      accepted = A;
      written =
          ap (λ (x : Answer). take x.words (translate_out n plan out)) a ∙ ap (take (1 + foretold_words n plan)) whole
          ∙ take_at P (drop (length P) out) (1 + foretold_words n plan) (omega (arith, (plan_counts n plan A).words));
      demand3 = demand3 n plan A;
    }

pub translate_tied : TranslateTied
translate_tied = record { done = done; takes = takes }
