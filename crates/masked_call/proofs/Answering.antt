-- What holds where an operation's answer is done, and that a refusal is none that is. Rests on word's Small and Passed.
use mathlib.Core.Path.{◌≡◌, refl, sym, ap, ◌∙◌}
use mathlib.Core.Bool.{Bool, true, false, not, ◌&&◌}
use mathlib.Core.List.{List}
use Prim.Native.Nat.{ℕ, ◌≤◌}
use native.Mathlib.Omega.{arith}
use lib.Dec.{ltb, eqb}
use borrow.Author.Tests.{ltb-false, eqb-true, not-false}
use Rattle.checks.specs.declared.answer.Answer.{Answer}
use Rattle.word.specs.Layout.{is_share_count}
use Rattle.word.proofs.Small.{share_range}
use Rattle.checks.proofs.Passed.{passed}
use Rattle.checks.specs.declared.refusal.Refusal.{Refusal}
use Rattle.checks.specs.declared.refusal.Refusal.TheVariants.{ShareCount, TooLong, BadWord, Length, Place, Tape, Layer, Head}
use Rattle.checks.specs.Answers.{refusal_of, refused}
use Rattle.masking.specs.Foretold.{foretold_tape}
use Rattle.masked_call.specs.Shares.{answer_for, operation_answer}

both : (p q : Bool) → not (p && q) ≡ false → (p ≡ true) × (q ≡ true)
both true true e = (refl, refl)
both true false e = let z : true ≡ false = e in (refl, sym z)
both false q e = let z : true ≡ false = e in (sym z, cc)

pub record Ready (plan : List ℕ) (n other result work tape : ℕ) : Type 0 where
  pub least : 2 ≤ n
  pub most : n ≤ 8
  pub others : other ≡ n
  pub results : result ≡ n
  pub works : work ≡ 512
  pub enough : foretold_tape n plan ≤ tape

pub ready : (plan : List ℕ) (n other result work tape : ℕ) (a : Answer) → a ≡ operation_answer plan n other result work tape → a.number ≡ 0 → Ready plan n other result work tape
unfolding answer_for
ready plan n other result work tape a e z =
    let p₁ = passed (not (is_share_count n)) (refused 1) _ (λ h. omega arith) (sym (ap (λ (x : Answer). x.number) e) ∙ z) in
    let p₄ = passed (not (eqb other n && (eqb result n && eqb work 512))) (refused 4) _ (λ h. omega arith) p₁.1 in
    let p₆ = passed (ltb tape (foretold_tape n plan)) (refused 6) _ (λ h. omega arith) p₄.1 in
    let s = share_range n (not-false (is_share_count n) p₁.0) in
    let l = both (eqb other n) (eqb result n && eqb work 512) p₄.0 in
    let m = both (eqb result n) (eqb work 512) (ap not l.1) in
    record {
      least = s.0;
      most = s.1;
      others = eqb-true other n l.0;
      results = eqb-true result n m.0;
      works = eqb-true work 512 m.1;
      enough = ltb-false tape (foretold_tape n plan) p₆.0;
    }

pub not_done : (e : Refusal) → (refusal_of e).number ≡ 0 → ⊥
not_done ShareCount h = omega arith
not_done TooLong h = omega arith
not_done (BadWord place) h = omega arith
not_done Length h = omega arith
not_done Place h = omega arith
not_done Tape h = omega arith
not_done Layer h = omega arith
not_done Head h = omega arith
