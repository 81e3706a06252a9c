-- Written by tools/compile_plan.py: change the plan or the compiler, not this file.
-- The plan of the larger number is its runs and the words between them, by computation, and the laws that masked_plan asks for.
-- Nothing here has to be believed: the contracts of the public calls do not cite it.
use mathlib.Core.Path.{◌≡◌, refl}
use mathlib.Core.List.{[], ◌∷◌}
use Prim.Native.Nat.{◌-◌, ◌*◌}
use lib.Dec.{T, leb→le}
use lib.ListN.{length}
use Rattle.word.specs.Encoding.{named, put}
use Rattle.word.specs.Encoding as encoding
use Rattle.word.specs.Layout.{plan_max, tape_of}
use Rattle.masking.specs.Foretold.{foretold_tape}
use Rattle.checks.specs.Unset.{known_after, member_of, reads_only}
use Rattle.masking.proofs.emitted.Counts.{by_count}
use Rattle.masked_call.specs.inner.Inner.{GoodPlan, TakesTape}
use Rattle.compiled_order.specs.Plan.{order_plan}
use Rattle.gates.specs.inner.PlanWords.{is_gate}
use Rattle.compiled.specs.inner.Cut.{Cut}
use Rattle.masked_plan.specs.inner.PlanLaws.{PlanLaws}
use Rattle.compiled_order.specs.inner.Runs.{gates, last_run, runs}

pub cut : Cut is_gate runs last_run gates order_plan
unfolding order_plan put named encoding.row
cut = record { whole = refl; runs = tt; final = tt; gates = tt; same = refl }

pub good : GoodPlan order_plan
unfolding order_plan put named encoding.row
good = record { short = leb→le (length order_plan) plan_max tt; good = refl }

pub takes : TakesTape 25 order_plan
unfolding order_plan put tape_of
takes = record { most = leb→le 25 (12 * plan_max) tt; tape = by_count (λ n. foretold_tape n order_plan ≡ 25 * (n * (n - 1))) refl refl refl refl refl refl refl }

-- it reads no register but the operands' before it is written, and writes register 2
pub reads : T (reads_only order_plan (0 ∷ 1 ∷ []))
unfolding order_plan put named encoding.row
reads = tt

pub writes : T (member_of (known_after order_plan (0 ∷ 1 ∷ [])) 2)
unfolding order_plan put named encoding.row
writes = tt

pub laws : PlanLaws is_gate runs last_run gates order_plan 3 25
laws = record { cut = cut; count = refl; good = good; takes = takes; reads = reads; writes = writes }
