-- A call over any plan, by its answer: what its parts ask for and what it leaves. The operation with a result slice of its own and the one in
-- place, whose result slice is the first operand, are proved by it in each compiled plan's crate. Rests on Plans, Answering and Tape.
use mathlib.Core.Path.{◌≡◌, ap, ◌∙◌}
use mathlib.Core.List.{List}
use Prim.Native.Nat.{ℕ, ◌-◌, ◌*◌, ◌≤◌}
use native.Mathlib.Omega.{arith}
use lib.ListN.{length, replicate}
use borrow.Author.Tests.{eq-eqb, ne_eqb}
use Rattle.checks.specs.declared.answer.Answer.{Answer}
use Rattle.masking.specs.Foretold.{Accepted, foretold_tape}
use Rattle.masked_call.specs.inner.Inner.{GoodPlan, TakesTape}
use Rattle.masked_call.specs.Shares.{answer_for, result_shares, call_answer, result_after, work_after, shares_of}
use Rattle.masked_call.proofs.Plans.{accepted}
use Rattle.masked_call.proofs.Answering.{Ready, ready}
use Rattle.masked_call.proofs.Tape.{by_units}

module _ (plan x y result work tape : List ℕ) where
  -- a call's answer, and its result and work slices afterwards
  abbrev pub Left : Answer → List ℕ → List ℕ → Type 0
  Left r res wrk =
      (r ≡ call_answer plan x y result work tape) × ((res ≡ result_after plan x y result work tape) × (wrk ≡ work_after plan x y result work tape))

  -- the call's tape words as units of n(n−1), and the answer by them
  module _ (units : ℕ) (takes : TakesTape units plan) (a : Answer) (answered : a ≡ answer_for (units * (length x * (length x - 1))) (length x) (length y) (length result) (length work) (length tape)) where
    e : a ≡ call_answer plan x y result work tape
    e = answered ∙ by_units units plan takes (length x) (length y) (length result) (length work) (length tape)

    pub turned_down : (a.number ≡ 0 → ⊥) → Left a result work
    turned_down h = (e, (rw (← e, ne_eqb _ 0 h), rw (← e, ne_eqb _ 0 h)))

    module _ (z : a.number ≡ 0) where
      R : Ready plan (length x) (length y) (length result) (length work) (length tape)
      R = ready plan (length x) (length y) (length result) (length work) (length tape) a e z

      pub to_finish : GoodPlan plan → Accepted (length x) plan × (length y ≡ length x) × (length work ≡ 512) × (foretold_tape (length x) plan ≤ length tape)
      to_finish G = (accepted G R.least R.most, R.others, R.works, R.enough)

      pub to_end : {cells : ℕ} → cells ≡ length work → (length result ≤ 8) × (cells ≡ 512)
      to_end l = (omega (arith, R.results, R.most), l ∙ R.works)

      pub acted : (cells : List ℕ) {res wrk : List ℕ} → length cells ≡ length work → shares_of (length x) 2 cells ≡ result_shares plan (length x) x y tape
          → (res ≡ shares_of (length result) 2 cells) × (wrk ≡ replicate (length cells) 0) → Left a res wrk
      acted cells l f ended =
          let shares_are = ended.0 ∙ ap (λ (m : ℕ). shares_of m 2 cells) R.results ∙ f in
          (e, (rw (← e, eq-eqb _ 0 z) shares_are, rw (← e, eq-eqb _ 0 z) (ended.1 ∙ ap (λ (k : ℕ). replicate k 0) (l ∙ R.works))))
