-- All that is proved of the operations on shares: one record over any plan that computes an operation, at each built-in plan.
use mathlib.Core.List.{List}
use Prim.Native.Nat.{ℕ}
use lib.Dec.{T, ltb}
use Rattle.word.specs.Table.{all_in}
use Rattle.checks.specs.Unset.{reads_only}
use Rattle.binary64.specs.Operations.{Operation, Product, Sum, Floor, Truncate, Nearest, on_words}
use Rattle.plans.specs.Computes.{Computes}
use Rattle.plans.specs.BuiltIns.{described, plan_of}
use Rattle.plans.proofs.BuiltIns.{built_ins}
use Rattle.operations.specs.Masked.{AnyStart, OnShares, Masked}
use Rattle.masked_call.specs.inner.Inner.{GoodPlan}
use Rattle.masked_call.proofs.Plans.{runs_whole}
use Rattle.masked_call.proofs.Known.{uncleared_steps}
use Rattle.operations.proofs.Joined.{accepted, plan_joins}
use Rattle.operations.proofs.CallJoined.{call_joins}
use Rattle.operations.proofs.Secret.{operation_secret}

-- a plan with what it computes is not too long and has no bad word
pub good : {plan : List ℕ} {op : ℕ → ℕ → ℕ} → Computes plan op → GoodPlan plan
good C = record { short = C.short; good = C.none_bad }

-- of a plan that reads no registers but some of these two before it writes them
any_start : {plan : List ℕ} {op : ℕ → ℕ → ℕ} → Computes plan op → (known : List ℕ) → T (all_in (λ r. ltb r 2) known) → T (reads_only plan known) → AnyStart plan
any_start {plan} {op} C known low reads n least most x y cells tape X Y size =
    uncleared_steps n most x y X.size Y.size plan known tape cells (accepted plan op C n least most) low reads size

on_shares : (plan : List ℕ) (op : ℕ → ℕ → ℕ) → Computes plan op → AnyStart plan → OnShares plan op
on_shares plan op C start =
    record {
      run = runs_whole plan (good C);
      joins = plan_joins plan op C;
      call = call_joins plan op (plan_joins plan op C);
      secret = operation_secret plan op C start;
      start = start;
    }

-- an operation's operands stand in registers 0 and 1
operands_low : (o : Operation) → T (all_in (λ r. ltb r 2) (described o).operands)
operands_low Product = tt
operands_low Sum = tt
operands_low Floor = tt
operands_low Truncate = tt
operands_low Nearest = tt

pub masked : Masked
masked o =
    let B = built_ins o in
    on_shares (plan_of o) (on_words o) B.computes (any_start B.computes (described o).operands (operands_low o) B.inputs)
