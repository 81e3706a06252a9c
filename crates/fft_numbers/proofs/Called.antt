-- A call in a list of acts gives what the call by itself gives over its part of the tape (`acts_are_calls`). Rests on Slots for its operands,
-- on Laws, and on masked_call's `result_part`.
use mathlib.Core.Path.{◌≡◌, refl, sym, ap, ◌∙◌}
use mathlib.Core.List.{List, [], ◌∷◌}
use Prim.Native.Nat.{ℕ, ◌-◌, ◌≤◌}
use native.Mathlib.Omega.{arith}
use lib.ListN.{length, drop, length-take, length-drop}
use borrow.Author.Tests.{eq-eqb}
use Rattle.checks.specs.declared.answer.Answer.{Answer}
use Rattle.checks.specs.Answers.{done, after_call}
use Rattle.masking.specs.Foretold.{foretold_tape}
use Rattle.plans.specs.BuiltIns.{plan_of}
use Rattle.masked_call.specs.Shares.{answer_for, result_shares, call_answer}
use Rattle.masked_call.proofs.Beside.{result_part}
use Rattle.operations.proofs.Tape.{answer_done}
use Rattle.fft_numbers.specs.Acts.{Call, Slots, tape_for, run_shares}
use Rattle.fft_numbers.specs.Secrecy.{part_of}
use Rattle.fft_numbers.specs.Holds.{ActsAreCalls}
use Rattle.fft_numbers.proofs.Laws.{tape_append, shares_append}
use Rattle.fft_numbers.proofs.Slots.{plan_accepted, acts_shared}

pub acts_are_calls : ActsAreCalls
acts_are_calls n least most before o k a b puts s S tape W enough result work lr lw =
    let plan = plan_of o in
    let L = foretold_tape n plan in
    let t = run_shares n before tape s in
    let rest = drop (tape_for n before) tape in
    let part = part_of n before o a b s tape in
    let x = t.held a in
    let y = t.held b in
    let all : L ≤ length tape - tape_for n before = omega (arith, tape_append n before (Call o k a b ∷ [])) in
    let T = acts_shared n least most before s tape puts S W (omega (arith, tape_append n before (Call o k a b ∷ []))) in
    let left : L ≤ length rest = omega (arith, length-drop (tape_for n before) tape) in
    let answer : call_answer plan x y result work part ≡ done 0 L =
    ap (λ (m : ℕ). answer_for (foretold_tape m plan) m (length y) (length result) (length work) (length part)) (T.held a).size
    ∙ answer_done L n (length y) (length result) (length work) (length part) least most (T.held b).size lr lw (omega (arith, length-take L rest)) in
    record {
      answer = answer;
      result_is = ap (λ (u : Slots (List ℕ)). u.held k) (shares_append n before (Call o k a b ∷ []) tape s)
          ∙ rw (eq-eqb k k refl) (sym (result_part n plan (plan_accepted n least most o) x y rest left))
          ∙ ap (λ (m : ℕ). result_shares plan m x y part) (sym (T.held a).size)
          ∙ sym (ap (λ (w : Answer). after_call w (result_shares plan (length x) x y part) result) answer);
    }
