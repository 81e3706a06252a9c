-- Written by tools/compile_plan.py: change the plan or the compiler, not this file.
-- Floor's plan is its runs and the words between them, by computation, and the laws that masked_plan asks for.
-- Nothing here has to be believed: the contracts of the public calls do not cite it.
use mathlib.Core.Path.{◌≡◌, refl}
use mathlib.Core.List.{[], ◌∷◌}
use Prim.Native.Nat.{◌-◌, ◌*◌}
use lib.Dec.{eqb, T, leb→le}
use lib.ListN.{length}
use Rattle.word.specs.Encoding.{named, put}
use Rattle.word.specs.Encoding as encoding
use Rattle.word.specs.Layout.{plan_max, tape_of}
use Rattle.masking.specs.Foretold.{foretold_tape}
use Rattle.checks.specs.Unset.{known_after, member_of, reads_only}
use Rattle.masking.proofs.emitted.Counts.{by_count}
use Rattle.masked_call.specs.inner.Inner.{GoodPlan, TakesTape}
use Rattle.plans.specs.words.FloorPlan.{floor_plan}
use Rattle.compiled.specs.inner.Cut.{Cut}
use Rattle.masked_plan.specs.inner.PlanLaws.{PlanLaws}
use Rattle.compiled_floor.specs.inner.Runs.{gates, last_run, runs}

pub cut : Cut (λ k. eqb k 3) runs last_run gates floor_plan
unfolding floor_plan put named encoding.row
cut = record { whole = refl; runs = tt; final = tt; gates = tt; same = refl }

pub good : GoodPlan floor_plan
unfolding floor_plan put named encoding.row
good = record { short = leb→le (length floor_plan) plan_max tt; good = refl }

pub takes : TakesTape 12 floor_plan
unfolding floor_plan put tape_of
takes = record { most = leb→le 12 (12 * plan_max) tt; tape = by_count (λ n. foretold_tape n floor_plan ≡ 12 * (n * (n - 1))) refl refl refl refl refl refl refl }

-- it reads no register but the operands' before it is written, and writes register 2
pub reads : T (reads_only floor_plan (0 ∷ 1 ∷ []))
unfolding floor_plan put named encoding.row
reads = tt

pub writes : T (member_of (known_after floor_plan (0 ∷ 1 ∷ [])) 2)
unfolding floor_plan put named encoding.row
writes = tt

pub laws : PlanLaws (λ k. eqb k 3) runs last_run gates floor_plan 12 12
laws = record { cut = cut; count = refl; good = good; takes = takes; reads = reads; writes = writes }
