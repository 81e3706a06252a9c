-- `plan_copy::copy::copy` meets its contract: what the plan's own call writes stands at the front (Copying).
use mathlib.Core.Path.{ap, ap₂, ◌∙◌}
use mathlib.Core.List.{List, ◌++◌}
use Prim.Native.Nat.{ℕ}
use native.Mathlib.Omega.{arith}
use lib.ListN.{drop}
use Rattle.checks.specs.Answers.{done}
use Rattle.plans.proofs.BuiltIns.{built_ins}
use Rattle.plan_copy.proofs.Copying.{copy_refused, copy_done}
use Rattle.plan_copy.proofs.copy.copy.Goals as goal

pub returns-then-out-size : goal.returns-then-out-size
returns-then-out-size g c =
    let r = copy_refused g.P.BuiltIn.plan c.args.out.now (omega (arith, c.size-size.ensures, c.if-out-size.true)) in record { value = r; holds = built_ins }

pub returns : goal.returns
returns g c =
    let r = copy_done g.P.BuiltIn.plan c.args.out.now _ (omega (arith, c.size-size.ensures, c.if-out-size.false)) (ap₂ (λ (p : List ℕ) (k : ℕ). p ++ drop k c.args.out.now) c.write.ensures c.size-size.ensures) in
    record { value = (ap (λ (k : ℕ). done k 0) c.size-size.ensures ∙ r.0, r.1); holds = built_ins }
