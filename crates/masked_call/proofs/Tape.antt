-- The tape words of a call: units times n(n−1). Rests on word's Small.
use mathlib.Core.Path.{◌≡◌, refl, sym, ap}
use mathlib.Core.Bool.{Bool, true, false}
use mathlib.Core.List.{List}
use Prim.Native.Nat.{ℕ, ◌-◌, ◌*◌, ◌≤◌}
use native.Mathlib.Nat.{mul-le-mul_right, mul-le-mul, le_trans}
use native.Mathlib.Omega.{arith}
use Rattle.word.specs.Layout.{is_share_count, plan_max}
use Rattle.word.proofs.Small.{share_range}
use Rattle.masked_call.specs.inner.Inner.{TakesTape}
use Rattle.masked_call.specs.Shares.{answer_for, operation_answer}

-- products that fit
pub pairs_most : (n : ℕ) → n ≤ 8 → n * (n - 1) ≤ 56
pairs_most n h = le_trans (mul-le-mul_right {m = n} {n = 8} (n - 1) h) (omega arith)

pub tape_most : (units n : ℕ) → units ≤ 12 * plan_max → n ≤ 8 → units * (n * (n - 1)) ≤ 12 * plan_max * 56
tape_most units n h l = mul-le-mul h (pairs_most n l)

-- the answer by these is that by what is foretold: another share count is turned down before either is looked at
pub by_units : (units : ℕ) (plan : List ℕ) → TakesTape units plan → (n other result work tape : ℕ)
    → answer_for (units * (n * (n - 1))) n other result work tape ≡ operation_answer plan n other result work tape
unfolding answer_for
by_units units plan takes n other result work tape = by (is_share_count n) refl
  where
    by : (b : Bool) → is_share_count n ≡ b → answer_for (units * (n * (n - 1))) n other result work tape ≡ operation_answer plan n other result work tape
    by true e = let r = share_range n e in ap (λ (k : ℕ). answer_for k n other result work tape) (sym (takes.tape n r.0 r.1))
    by false e = rw e
