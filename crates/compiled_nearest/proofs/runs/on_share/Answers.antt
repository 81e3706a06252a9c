-- Written by tools/compile_plan.py: change the plan or the compiler, not this file.
-- `compiled_nearest::runs::on_share` meets its contract, run by run.
use mathlib.Core.Path.{ap}
use mathlib.Core.List.{[], ◌∷◌}
use Prim.Native.Nat.{ℕ}
use lib.ListN.{get_or}
use Rattle.compiled.proofs.Reorder.{in_order}
use Rattle.compiled.proofs.Rest.{past}
use Rattle.compiled_nearest.specs.inner.Runs.{last_run, runs}
use Rattle.compiled_nearest.proofs.runs.on_share.Goals as goal

pub sixteen-requires : goal.sixteen-requires
sixteen-requires c = c.requires

pub sixteen-requires-in-1 : goal.sixteen-requires-in-1
sixteen-requires-in-1 c = c.requires

pub sixteen-requires-in-2 : goal.sixteen-requires-in-2
sixteen-requires-in-2 c = c.requires

pub eight-requires : goal.eight-requires
eight-requires c = c.requires

pub sixteen-requires-in-4 : goal.sixteen-requires-in-4
sixteen-requires-in-4 c = c.requires

pub four-requires-in-6 : goal.four-requires-in-6
four-requires-in-6 c = c.requires

pub sixteen-requires-in-7 : goal.sixteen-requires-in-7
sixteen-requires-in-7 c = c.requires

pub eight-requires-in-8 : goal.eight-requires-in-8
eight-requires-in-8 c = c.requires

pub eight-requires-in-9 : goal.eight-requires-in-9
eight-requires-in-9 c = c.requires

pub eight-requires-in-10 : goal.eight-requires-in-10
eight-requires-in-10 c = c.requires

pub eight-requires-in-11 : goal.eight-requires-in-11
eight-requires-in-11 c = c.requires

pub eight-requires-in-12 : goal.eight-requires-in-12
eight-requires-in-12 c = c.requires

pub sixteen-requires-in-13 : goal.sixteen-requires-in-13
sixteen-requires-in-13 c = c.requires

pub two-requires-in_default : goal.two-requires-in_default
two-requires-in_default c = c.requires

pub returns-in-0 : goal.returns-in-0
returns-in-0 c = rw (c.in-0.is, c.linear.ensures, c.sixteen-in-0-3.ensures, c.sixteen-in-0-2.ensures, c.sixteen-in-0.ensures, c.sixteen.ensures)

pub returns-in-1 : goal.returns-in-1
returns-in-1 c = in_order (1342970423 ∷ 1343232564 ∷ 1614027276 ∷ 1611663421 ∷ 1611925505 ∷ 538445830 ∷ 1343227967 ∷ 1075317760 ∷ 1344015423 ∷ 1612451390 ∷ 1611663423 ∷ 537921543 ∷ 1612188673 ∷ 1343753279 ∷ 1343227913 ∷ 1345591820 ∷ 1611400759 ∷ 1612188734 ∷ 540280333 ∷ 538184709 ∷ 1343490569 ∷ 539232777 ∷ 540280845 ∷ []) (get_or runs 1 last_run) c.args.i c.args.cells.now (rw (c.linear-in-1.ensures, c.two.ensures, c.four.ensures, c.sixteen-in-1.ensures)) (ap (λ (k : ℕ). get_or runs k last_run) c.in-1.is) tt

pub returns-in-2 : goal.returns-in-2
returns-in-2 c = in_order (1343232564 ∷ 1342970423 ∷ 1611400759 ∷ 1614027276 ∷ 1611663421 ∷ 1345591820 ∷ 540280333 ∷ 1345854008 ∷ 1614289976 ∷ 1615600140 ∷ 1342970888 ∷ 540542478 ∷ 1342970896 ∷ 540548099 ∷ 1342970912 ∷ 1347167756 ∷ 540542478 ∷ 1342970423 ∷ 1611400767 ∷ 541853203 ∷ 1342965249 ∷ 541853203 ∷ 1343227913 ∷ 541861380 ∷ 1615862796 ∷ 1342970942 ∷ 1611935236 ∷ 1347430412 ∷ 1611400766 ∷ 542115348 ∷ 1342966273 ∷ 538184195 ∷ 269221889 ∷ 538184195 ∷ 1343490569 ∷ 542116372 ∷ []) (get_or runs 2 last_run) c.args.i c.args.cells.now (rw (c.four-in-2.ensures, c.sixteen-in-2-2.ensures, c.sixteen-in-2.ensures)) (ap (λ (k : ℕ). get_or runs k last_run) c.in-2.is) tt

pub returns-in-3 : goal.returns-in-3
returns-in-3 c = in_order (1343232564 ∷ 1342970423 ∷ 1614027276 ∷ 1611663421 ∷ 1611400759 ∷ 1611925505 ∷ 1880361472 ∷ 1343490572 ∷ 1343227967 ∷ 1345591820 ∷ 1611663423 ∷ 538184196 ∷ 1343227905 ∷ 538183685 ∷ 540285443 ∷ []) (get_or runs 3 last_run) c.args.i c.args.cells.now (rw (c.linear-in-3.ensures, c.two-in-3.ensures, c.four-in-3.ensures, c.eight.ensures)) (ap (λ (k : ℕ). get_or runs k last_run) c.in-3.is) tt

pub returns-in-4 : goal.returns-in-4
returns-in-4 c = rw (c.in-4.is, c.eight-in-4.ensures, c.sixteen-in-4.ensures)

pub returns-in-5 : goal.returns-in-5
returns-in-5 c = rw c.in-5.is

pub returns-in-6 : goal.returns-in-6
returns-in-6 c = rw (c.in-6.is, c.four-in-6.ensures)

pub returns-in-7 : goal.returns-in-7
returns-in-7 c = rw (c.in-7.is, c.linear-in-7.ensures, c.two-in-7.ensures, c.four-in-7.ensures, c.eight-in-7.ensures, c.sixteen-in-7.ensures)

pub returns-in-8 : goal.returns-in-8
returns-in-8 c = rw (c.in-8.is, c.two-in-8.ensures, c.four-in-8.ensures, c.eight-in-8.ensures)

pub returns-in-9 : goal.returns-in-9
returns-in-9 c = rw (c.in-9.is, c.two-in-9.ensures, c.four-in-9.ensures, c.eight-in-9.ensures)

pub returns-in-10 : goal.returns-in-10
returns-in-10 c = rw (c.in-10.is, c.two-in-10.ensures, c.four-in-10.ensures, c.eight-in-10.ensures)

pub returns-in-11 : goal.returns-in-11
returns-in-11 c = rw (c.in-11.is, c.two-in-11.ensures, c.four-in-11.ensures, c.eight-in-11.ensures)

pub returns-in-12 : goal.returns-in-12
returns-in-12 c = rw (c.in-12.is, c.two-in-12.ensures, c.four-in-12.ensures, c.eight-in-12.ensures)

pub returns-in-13 : goal.returns-in-13
returns-in-13 c = rw (c.in-13.is, c.linear-in-13.ensures, c.sixteen-in-13.ensures)

pub returns-in_default : goal.returns-in_default
returns-in_default c = rw (past runs last_run _ c.in_default.in_default-own.rest, c.two-in_default.ensures)
