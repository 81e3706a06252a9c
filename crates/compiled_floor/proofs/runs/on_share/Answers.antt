-- Written by tools/compile_plan.py: change the plan or the compiler, not this file.
-- `compiled_floor::runs::on_share` meets its contract, run by run.
use mathlib.Core.Path.{ap}
use mathlib.Core.List.{[], ◌∷◌}
use Prim.Native.Nat.{ℕ}
use lib.ListN.{get_or}
use Rattle.compiled.proofs.Reorder.{in_order}
use Rattle.compiled.proofs.Rest.{past}
use Rattle.compiled_floor.specs.inner.Runs.{last_run, runs}
use Rattle.compiled_floor.proofs.runs.on_share.Goals as goal

pub sixteen-requires : goal.sixteen-requires
sixteen-requires c = c.requires

pub sixteen-requires-in-1 : goal.sixteen-requires-in-1
sixteen-requires-in-1 c = c.requires

pub sixteen-requires-in-2 : goal.sixteen-requires-in-2
sixteen-requires-in-2 c = c.requires

pub sixteen-requires-in-3 : goal.sixteen-requires-in-3
sixteen-requires-in-3 c = c.requires

pub sixteen-requires-in-4 : goal.sixteen-requires-in-4
sixteen-requires-in-4 c = c.requires

pub sixteen-requires-in-5 : goal.sixteen-requires-in-5
sixteen-requires-in-5 c = c.requires

pub eight-requires-in-6 : goal.eight-requires-in-6
eight-requires-in-6 c = c.requires

pub eight-requires-in-7 : goal.eight-requires-in-7
eight-requires-in-7 c = c.requires

pub eight-requires-in-8 : goal.eight-requires-in-8
eight-requires-in-8 c = c.requires

pub eight-requires-in-9 : goal.eight-requires-in-9
eight-requires-in-9 c = c.requires

pub eight-requires-in-10 : goal.eight-requires-in-10
eight-requires-in-10 c = c.requires

pub sixteen-requires-in-11 : goal.sixteen-requires-in-11
sixteen-requires-in-11 c = c.requires

pub two-requires-in_default : goal.two-requires-in_default
two-requires-in_default c = c.requires

pub returns-in-0 : goal.returns-in-0
returns-in-0 c = in_order (1347944454 ∷ 1616391226 ∷ 1348206593 ∷ 271581184 ∷ 1076893696 ∷ 1345329184 ∷ 1616653883 ∷ 1611410437 ∷ 1343499836 ∷ 1343237694 ∷ 1879836160 ∷ 539760643 ∷ 1611663422 ∷ 1611400767 ∷ 1611926078 ∷ 1342965256 ∷ 538445829 ∷ 1613501964 ∷ 1343490569 ∷ 1345066508 ∷ 539756043 ∷ 1343227913 ∷ 1611405328 ∷ 540022787 ∷ 1611410436 ∷ 1879836160 ∷ 539493900 ∷ 1611400767 ∷ 1342965256 ∷ 1613239308 ∷ 1344803852 ∷ 539497475 ∷ 1611405320 ∷ 540022787 ∷ 1611410435 ∷ 1879836160 ∷ 539236355 ∷ 1612976652 ∷ 1611400767 ∷ 1342965256 ∷ 1344541196 ∷ 539231753 ∷ 1611405316 ∷ 540018188 ∷ 1611410434 ∷ 1879836160 ∷ 537663491 ∷ 1611400760 ∷ 539756043 ∷ 1611405314 ∷ 539756555 ∷ 540022787 ∷ 1611410433 ∷ 1879836160 ∷ 537663491 ∷ 1611400760 ∷ 539493898 ∷ 539497477 ∷ 1611405313 ∷ 540022787 ∷ 1611410432 ∷ 1879836160 ∷ 537658892 ∷ 1611400760 ∷ 539231753 ∷ []) (get_or runs 0 last_run) c.args.i c.args.cells.now (rw (c.linear.ensures, c.sixteen-in-0-3.ensures, c.sixteen-in-0-2.ensures, c.sixteen-in-0.ensures, c.sixteen.ensures)) (ap (λ (k : ℕ). get_or runs k last_run) c.in-0.is) tt

pub returns-in-1 : goal.returns-in-1
returns-in-1 c = in_order (1343232564 ∷ 1342970423 ∷ 1611400759 ∷ 1614027276 ∷ 1611663421 ∷ 1611925505 ∷ 538445830 ∷ 1343227967 ∷ 1075317760 ∷ 1611663423 ∷ 1344015423 ∷ 1345591820 ∷ 1612188673 ∷ 540280333 ∷ 1612451390 ∷ 537921543 ∷ 1343227913 ∷ 1343753279 ∷ 540285444 ∷ 1612188734 ∷ 538184709 ∷ 1343490569 ∷ 539234821 ∷ []) (get_or runs 1 last_run) c.args.i c.args.cells.now (rw (c.linear-in-1.ensures, c.two.ensures, c.four.ensures, c.sixteen-in-1.ensures)) (ap (λ (k : ℕ). get_or runs k last_run) c.in-1.is) tt

pub returns-in-2 : goal.returns-in-2
returns-in-2 c = in_order (1342970423 ∷ 1611400759 ∷ 1611935236 ∷ 1343232564 ∷ 1611663421 ∷ 1614027276 ∷ 1345591820 ∷ 540280333 ∷ 1615600140 ∷ 1345854008 ∷ 1614289976 ∷ 1347167756 ∷ 1342970888 ∷ 540542478 ∷ 1342970896 ∷ 540542478 ∷ 1342970912 ∷ 540542478 ∷ 1615862796 ∷ 1342970423 ∷ 1343227913 ∷ 1611400767 ∷ 1347430412 ∷ 541861379 ∷ 1342965249 ∷ 541861379 ∷ 541853715 ∷ 1342970942 ∷ 1611400766 ∷ 542115348 ∷ 1342966273 ∷ 538184195 ∷ 269221889 ∷ 538183173 ∷ 1343490569 ∷ 542116372 ∷ []) (get_or runs 2 last_run) c.args.i c.args.cells.now (rw (c.four-in-2.ensures, c.sixteen-in-2-2.ensures, c.sixteen-in-2.ensures)) (ap (λ (k : ℕ). get_or runs k last_run) c.in-2.is) tt

pub returns-in-3 : goal.returns-in-3
returns-in-3 c = in_order (1342970423 ∷ 1611400759 ∷ 1343232564 ∷ 1614027276 ∷ 1345591820 ∷ 1611663421 ∷ 540280333 ∷ 1616124479 ∷ 1611925505 ∷ 1347693065 ∷ 540289549 ∷ 1880361472 ∷ 1343490572 ∷ 1343227967 ∷ 1342973493 ∷ 1611663423 ∷ 538183685 ∷ 1343227905 ∷ 1611400767 ∷ 538184196 ∷ 1614285375 ∷ 540548099 ∷ 1345854473 ∷ 538184206 ∷ []) (get_or runs 3 last_run) c.args.i c.args.cells.now (rw (c.eight.ensures, c.sixteen-in-3.ensures)) (ap (λ (k : ℕ). get_or runs k last_run) c.in-3.is) tt

pub returns-in-4 : goal.returns-in-4
returns-in-4 c = rw (c.in-4.is, c.linear-in-4.ensures, c.four-in-4.ensures, c.eight-in-4.ensures, c.sixteen-in-4.ensures)

pub returns-in-5 : goal.returns-in-5
returns-in-5 c = in_order (1614548542 ∷ 541327366 ∷ 1616126015 ∷ 1346379777 ∷ 1074539008 ∷ 1342965311 ∷ 1614815233 ∷ 541597699 ∷ 541336080 ∷ 1343235072 ∷ 1078206976 ∷ 1611663392 ∷ 1347428896 ∷ 542115860 ∷ 537666577 ∷ 1342965280 ∷ 1611400736 ∷ 541860355 ∷ 1078732288 ∷ []) (get_or runs 5 last_run) c.args.i c.args.cells.now (rw (c.linear-in-5.ensures, c.two-in-5.ensures, c.sixteen-in-5.ensures)) (ap (λ (k : ℕ). get_or runs k last_run) c.in-5.is) tt

pub returns-in-6 : goal.returns-in-6
returns-in-6 c = in_order (1343235616 ∷ 1611663392 ∷ 541861380 ∷ 541591570 ∷ 541336083 ∷ 1343235104 ∷ 1611663408 ∷ 537666577 ∷ 1342965296 ∷ 1611400752 ∷ 541853201 ∷ 1078732288 ∷ 1347428880 ∷ 542124036 ∷ []) (get_or runs 6 last_run) c.args.i c.args.cells.now (rw (c.two-in-6.ensures, c.four-in-6.ensures, c.eight-in-6.ensures)) (ap (λ (k : ℕ). get_or runs k last_run) c.in-6.is) tt

pub returns-in-7 : goal.returns-in-7
returns-in-7 c = rw (c.in-7.is, c.two-in-7.ensures, c.four-in-7.ensures, c.eight-in-7.ensures)

pub returns-in-8 : goal.returns-in-8
returns-in-8 c = rw (c.in-8.is, c.two-in-8.ensures, c.four-in-8.ensures, c.eight-in-8.ensures)

pub returns-in-9 : goal.returns-in-9
returns-in-9 c = rw (c.in-9.is, c.two-in-9.ensures, c.four-in-9.ensures, c.eight-in-9.ensures)

pub returns-in-10 : goal.returns-in-10
returns-in-10 c = rw (c.in-10.is, c.two-in-10.ensures, c.four-in-10.ensures, c.eight-in-10.ensures)

pub returns-in-11 : goal.returns-in-11
returns-in-11 c = rw (c.in-11.is, c.linear-in-11.ensures, c.sixteen-in-11.ensures)

pub returns-in_default : goal.returns-in_default
returns-in_default c = rw (past runs last_run _ c.in_default.in_default-own.rest, c.two-in_default.ensures)
