-- Written by tools/compile_plan.py: change the plan or the compiler, not this file.
-- `compiled_truncate::runs::on_share` meets its contract, run by run.
use mathlib.Core.Path.{ap}
use mathlib.Core.List.{[], ◌∷◌}
use Prim.Native.Nat.{ℕ}
use lib.ListN.{get_or}
use Rattle.compiled.proofs.Reorder.{in_order}
use Rattle.compiled.proofs.Rest.{past}
use Rattle.compiled_truncate.specs.inner.Runs.{last_run, runs}
use Rattle.compiled_truncate.proofs.runs.on_share.Goals as goal

pub sixteen-requires : goal.sixteen-requires
sixteen-requires c = c.requires

pub sixteen-requires-in-1 : goal.sixteen-requires-in-1
sixteen-requires-in-1 c = c.requires

pub sixteen-requires-in-2 : goal.sixteen-requires-in-2
sixteen-requires-in-2 c = c.requires

pub eight-requires : goal.eight-requires
eight-requires c = c.requires

pub sixteen-requires-in-4 : goal.sixteen-requires-in-4
sixteen-requires-in-4 c = c.requires

pub returns-in-0 : goal.returns-in-0
returns-in-0 c = rw (c.in-0.is, c.linear.ensures, c.sixteen-in-0-3.ensures, c.sixteen-in-0-2.ensures, c.sixteen-in-0.ensures, c.sixteen.ensures)

pub returns-in-1 : goal.returns-in-1
returns-in-1 c = in_order (1343232564 ∷ 1342970423 ∷ 1611663421 ∷ 1611400759 ∷ 1614027276 ∷ 1611925505 ∷ 1345591820 ∷ 538446852 ∷ 1075317760 ∷ 1343227967 ∷ 1344015423 ∷ 540280333 ∷ 1611663423 ∷ 1612451390 ∷ 1612188673 ∷ 1343753279 ∷ 1612188734 ∷ 538184709 ∷ 537923076 ∷ 1343227913 ∷ 540285444 ∷ 1343490569 ∷ 539232777 ∷ []) (get_or runs 1 last_run) c.args.i c.args.cells.now (rw (c.linear-in-1.ensures, c.two.ensures, c.four.ensures, c.sixteen-in-1.ensures)) (ap (λ (k : ℕ). get_or runs k last_run) c.in-1.is) tt

pub returns-in-2 : goal.returns-in-2
returns-in-2 c = in_order (1342970423 ∷ 1343232564 ∷ 1611935236 ∷ 1611663421 ∷ 1611400759 ∷ 1614027276 ∷ 1345591820 ∷ 1343227913 ∷ 540280333 ∷ 1345854008 ∷ 1615600140 ∷ 1614289976 ∷ 1342970888 ∷ 540542478 ∷ 1342970896 ∷ 540548099 ∷ 1342970912 ∷ 540548099 ∷ 1347167756 ∷ 1342970423 ∷ 1611400767 ∷ 541861379 ∷ 1615862796 ∷ 1342965249 ∷ 541861379 ∷ 1347430412 ∷ 1342970942 ∷ 1611400766 ∷ 541861380 ∷ 542124035 ∷ 1342966273 ∷ 538183173 ∷ 269221889 ∷ 538184195 ∷ 1343490569 ∷ 542124037 ∷ []) (get_or runs 2 last_run) c.args.i c.args.cells.now (rw (c.four-in-2.ensures, c.sixteen-in-2-2.ensures, c.sixteen-in-2.ensures)) (ap (λ (k : ℕ). get_or runs k last_run) c.in-2.is) tt

pub returns-in-3 : goal.returns-in-3
returns-in-3 c = in_order (1343232564 ∷ 1611663421 ∷ 1611925505 ∷ 1342970423 ∷ 1343227967 ∷ 1614027276 ∷ 1611400759 ∷ 1345591820 ∷ 1880361472 ∷ 540280333 ∷ 1343490572 ∷ 1611663423 ∷ 538183685 ∷ 1343227905 ∷ 538183685 ∷ []) (get_or runs 3 last_run) c.args.i c.args.cells.now (rw (c.linear-in-3.ensures, c.two-in-3.ensures, c.four-in-3.ensures, c.eight.ensures)) (ap (λ (k : ℕ). get_or runs k last_run) c.in-3.is) tt

pub returns-in-4 : goal.returns-in-4
returns-in-4 c = rw (c.in-4.is, c.linear-in-4.ensures, c.eight-in-4.ensures, c.sixteen-in-4.ensures)

pub returns-in_default : goal.returns-in_default
returns-in_default c = rw (past runs last_run _ c.in_default.in_default-own.rest)
