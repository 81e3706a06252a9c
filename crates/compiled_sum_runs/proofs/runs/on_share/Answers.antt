-- Written by tools/compile_plan.py: change the plan or the compiler, not this file.
-- `compiled_sum_runs::runs::on_share` meets its contract, run by run.
use mathlib.Core.Path.{ap}
use mathlib.Core.List.{[], ◌∷◌}
use Prim.Native.Nat.{ℕ}
use native.Mathlib.Omega.{arith}
use lib.ListN.{get_or}
use Rattle.compiled.proofs.Reorder.{in_order}
use Rattle.compiled.proofs.Rest.{reached}
use Rattle.compiled_sum_from_27.specs.inner.Runs.{last_run, runs}
use Rattle.compiled_sum_runs.proofs.runs.on_share.Goals as goal

pub eight-requires : goal.eight-requires
eight-requires c = c.requires

pub sixteen-requires : goal.sixteen-requires
sixteen-requires c = c.requires

pub sixteen-requires-in-2 : goal.sixteen-requires-in-2
sixteen-requires-in-2 c = c.requires

pub sixteen-requires-in-3 : goal.sixteen-requires-in-3
sixteen-requires-in-3 c = c.requires

pub sixteen-requires-in-4 : goal.sixteen-requires-in-4
sixteen-requires-in-4 c = c.requires

pub sixteen-requires-in-5 : goal.sixteen-requires-in-5
sixteen-requires-in-5 c = c.requires

pub sixteen-requires-in-6 : goal.sixteen-requires-in-6
sixteen-requires-in-6 c = c.requires

pub sixteen-requires-in-7 : goal.sixteen-requires-in-7
sixteen-requires-in-7 c = c.requires

pub eight-requires-in-8 : goal.eight-requires-in-8
eight-requires-in-8 c = c.requires

pub four-requires-in-9 : goal.four-requires-in-9
four-requires-in-9 c = c.requires

pub eight-requires-in-10 : goal.eight-requires-in-10
eight-requires-in-10 c = c.requires

pub eight-requires-in-11 : goal.eight-requires-in-11
eight-requires-in-11 c = c.requires

pub eight-requires-in-12 : goal.eight-requires-in-12
eight-requires-in-12 c = c.requires

pub eight-requires-in-13 : goal.eight-requires-in-13
eight-requires-in-13 c = c.requires

pub two-requires-in-14 : goal.two-requires-in-14
two-requires-in-14 c = c.requires

pub four-requires-in-15 : goal.four-requires-in-15
four-requires-in-15 c = c.requires

pub eight-requires-in-16 : goal.eight-requires-in-16
eight-requires-in-16 c = c.requires

pub four-requires-in-17 : goal.four-requires-in-17
four-requires-in-17 c = c.requires

pub eight-requires-in-18 : goal.eight-requires-in-18
eight-requires-in-18 c = c.requires

pub four-requires-in-19 : goal.four-requires-in-19
four-requires-in-19 c = c.requires

pub eight-requires-in-20 : goal.eight-requires-in-20
eight-requires-in-20 c = c.requires

pub four-requires-in-21 : goal.four-requires-in-21
four-requires-in-21 c = c.requires

pub eight-requires-in-22 : goal.eight-requires-in-22
eight-requires-in-22 c = c.requires

pub four-requires-in-23 : goal.four-requires-in-23
four-requires-in-23 c = c.requires

pub eight-requires-in-24 : goal.eight-requires-in-24
eight-requires-in-24 c = c.requires

pub four-requires-in-25 : goal.four-requires-in-25
four-requires-in-25 c = c.requires

pub eight-requires-in-26 : goal.eight-requires-in-26
eight-requires-in-26 c = c.requires

pub from_27-requires : goal.from_27-requires
from_27-requires c = (reached 0 27 _ c.in_default.in_default-own.rest (omega arith), c.requires.0, c.requires.1)

pub returns-in-0 : goal.returns-in-0
returns-in-0 c = rw (c.in-0.is, c.linear.ensures, c.four.ensures, c.eight.ensures)

pub returns-in-1 : goal.returns-in-1
returns-in-1 c = rw (c.in-1.is, c.sixteen.ensures)

pub returns-in-2 : goal.returns-in-2
returns-in-2 c = rw (c.in-2.is, c.four-in-2.ensures, c.sixteen-in-2.ensures)

pub returns-in-3 : goal.returns-in-3
returns-in-3 c = rw (c.in-3.is, c.four-in-3.ensures, c.sixteen-in-3.ensures)

pub returns-in-4 : goal.returns-in-4
returns-in-4 c = rw (c.in-4.is, c.four-in-4.ensures, c.sixteen-in-4.ensures)

pub returns-in-5 : goal.returns-in-5
returns-in-5 c = rw (c.in-5.is, c.linear-in-5.ensures, c.sixteen-in-5.ensures)

pub returns-in-6 : goal.returns-in-6
returns-in-6 c = rw (c.in-6.is, c.linear-in-6.ensures, c.two.ensures, c.four-in-6.ensures, c.eight-in-6.ensures, c.sixteen-in-6.ensures)

pub returns-in-7 : goal.returns-in-7
returns-in-7 c = in_order (1345591352 ∷ 1614027320 ∷ 1614288958 ∷ 1345854472 ∷ 540285454 ∷ 1345591809 ∷ 537921549 ∷ 1345329154 ∷ 1614023231 ∷ 1613764618 ∷ 1345329160 ∷ 537921549 ∷ 1614284806 ∷ 1345598015 ∷ 1611925505 ∷ 1614027322 ∷ 1880361472 ∷ 1611926022 ∷ 1343490566 ∷ 540548109 ∷ 1614033424 ∷ 539234828 ∷ 1345591871 ∷ 1613763074 ∷ 540021260 ∷ 1614027321 ∷ 540547598 ∷ 1077419008 ∷ 1345854520 ∷ 1614289976 ∷ 1614027780 ∷ 538184205 ∷ 1345592380 ∷ 1614027324 ∷ 540022797 ∷ []) (get_or runs 7 last_run) c.args.i c.args.cells.now (rw (c.linear-in-7.ensures, c.two-in-7.ensures, c.sixteen-in-7-2.ensures, c.sixteen-in-7.ensures)) (ap (λ (k : ℕ). get_or runs k last_run) c.in-7.is) tt

pub returns-in-8 : goal.returns-in-8
returns-in-8 c = in_order (1345853498 ∷ 1614289978 ∷ 540022798 ∷ 539234828 ∷ 1613763076 ∷ 1611925506 ∷ 540022793 ∷ 1880361472 ∷ []) (get_or runs 8 last_run) c.args.i c.args.cells.now (rw c.eight-in-8.ensures) (ap (λ (k : ℕ). get_or runs k last_run) c.in-8.is) tt

pub returns-in-9 : goal.returns-in-9
returns-in-9 c = in_order (539236361 ∷ 1611925507 ∷ 1880361472 ∷ 1613763080 ∷ 540022793 ∷ []) (get_or runs 9 last_run) c.args.i c.args.cells.now (rw (c.linear-in-9.ensures, c.four-in-9.ensures)) (ap (λ (k : ℕ). get_or runs k last_run) c.in-9.is) tt

pub returns-in-10 : goal.returns-in-10
returns-in-10 c = rw (c.in-10.is, c.linear-in-10.ensures, c.four-in-10.ensures, c.eight-in-10.ensures)

pub returns-in-11 : goal.returns-in-11
returns-in-11 c = in_order (539236361 ∷ 1611925509 ∷ 1880361472 ∷ 1614026768 ∷ 540022797 ∷ 1614026784 ∷ 540022797 ∷ 1345329200 ∷ 1613764640 ∷ 539497484 ∷ 1613763104 ∷ 540021260 ∷ []) (get_or runs 11 last_run) c.args.i c.args.cells.now (rw (c.four-in-11.ensures, c.eight-in-11.ensures)) (ap (λ (k : ℕ). get_or runs k last_run) c.in-11.is) tt

pub returns-in-12 : goal.returns-in-12
returns-in-12 c = rw (c.in-12.is, c.two-in-12.ensures, c.four-in-12.ensures, c.eight-in-12.ensures)

pub returns-in-13 : goal.returns-in-13
returns-in-13 c = rw (c.in-13.is, c.linear-in-13.ensures, c.eight-in-13.ensures)

pub returns-in-14 : goal.returns-in-14
returns-in-14 c = rw (c.in-14.is, c.linear-in-14.ensures, c.two-in-14.ensures)

pub returns-in-15 : goal.returns-in-15
returns-in-15 c = rw (c.in-15.is, c.two-in-15.ensures, c.four-in-15.ensures)

pub returns-in-16 : goal.returns-in-16
returns-in-16 c = in_order (1345328129 ∷ 1076630016 ∷ 1074796032 ∷ 1611930632 ∷ 1614022666 ∷ 1345591818 ∷ 1345854520 ∷ 540022789 ∷ 1614289976 ∷ 540285454 ∷ []) (get_or runs 16 last_run) c.args.i c.args.cells.now (rw (c.two-in-16.ensures, c.eight-in-16.ensures)) (ap (λ (k : ℕ). get_or runs k last_run) c.in-16.is) tt

pub returns-in-17 : goal.returns-in-17
returns-in-17 c = in_order (1346639361 ∷ 1345853494 ∷ 1614289974 ∷ 540023820 ∷ 539497484 ∷ []) (get_or runs 17 last_run) c.args.i c.args.cells.now (rw (c.linear-in-17.ensures, c.four-in-17.ensures)) (ap (λ (k : ℕ). get_or runs k last_run) c.in-17.is) tt

pub returns-in-18 : goal.returns-in-18
returns-in-18 c = in_order (539763211 ∷ 1074796032 ∷ 1614022666 ∷ 1345328130 ∷ 1345591818 ∷ 1611930628 ∷ 540022789 ∷ 540285965 ∷ []) (get_or runs 18 last_run) c.args.i c.args.cells.now (rw c.eight-in-18.ensures) (ap (λ (k : ℕ). get_or runs k last_run) c.in-18.is) tt

pub returns-in-19 : goal.returns-in-19
returns-in-19 c = in_order (1345853494 ∷ 1346639362 ∷ 1614289974 ∷ 540023820 ∷ 539498506 ∷ []) (get_or runs 19 last_run) c.args.i c.args.cells.now (rw (c.linear-in-19.ensures, c.four-in-19.ensures)) (ap (λ (k : ℕ). get_or runs k last_run) c.in-19.is) tt

pub returns-in-20 : goal.returns-in-20
returns-in-20 c = in_order (539760145 ∷ 1345328132 ∷ 1074796032 ∷ 1614022666 ∷ 1611930626 ∷ 540022789 ∷ 1345591818 ∷ 540285454 ∷ []) (get_or runs 20 last_run) c.args.i c.args.cells.now (rw c.eight-in-20.ensures) (ap (λ (k : ℕ). get_or runs k last_run) c.in-20.is) tt

pub returns-in-21 : goal.returns-in-21
returns-in-21 c = in_order (1345853494 ∷ 1346639364 ∷ 1614289974 ∷ 540022798 ∷ 539498506 ∷ []) (get_or runs 21 last_run) c.args.i c.args.cells.now (rw (c.linear-in-21.ensures, c.four-in-21.ensures)) (ap (λ (k : ℕ). get_or runs k last_run) c.in-21.is) tt

pub returns-in-22 : goal.returns-in-22
returns-in-22 c = in_order (539760145 ∷ 1074796032 ∷ 1611930625 ∷ 1614022666 ∷ 1345591818 ∷ 1345328136 ∷ 540285965 ∷ 540022789 ∷ []) (get_or runs 22 last_run) c.args.i c.args.cells.now (rw c.eight-in-22.ensures) (ap (λ (k : ℕ). get_or runs k last_run) c.in-22.is) tt

pub returns-in-23 : goal.returns-in-23
returns-in-23 c = in_order (1345853494 ∷ 1346639368 ∷ 1614289974 ∷ 540023820 ∷ 539498506 ∷ []) (get_or runs 23 last_run) c.args.i c.args.cells.now (rw (c.linear-in-23.ensures, c.four-in-23.ensures)) (ap (λ (k : ℕ). get_or runs k last_run) c.in-23.is) tt

pub returns-in-24 : goal.returns-in-24
returns-in-24 c = in_order (539763211 ∷ 1074796032 ∷ 269746177 ∷ 540543502 ∷ 1345328144 ∷ 1614022666 ∷ 540022799 ∷ 1345591818 ∷ 540285454 ∷ []) (get_or runs 24 last_run) c.args.i c.args.cells.now (rw (c.linear-in-24.ensures, c.eight-in-24.ensures)) (ap (λ (k : ℕ). get_or runs k last_run) c.in-24.is) tt

pub returns-in-25 : goal.returns-in-25
returns-in-25 c = in_order (1346115638 ∷ 1346639376 ∷ 1614552630 ∷ 540024332 ∷ 539497484 ∷ []) (get_or runs 25 last_run) c.args.i c.args.cells.now (rw (c.linear-in-25.ensures, c.four-in-25.ensures)) (ap (λ (k : ℕ). get_or runs k last_run) c.in-25.is) tt

pub returns-in-26 : goal.returns-in-26
returns-in-26 c = rw (c.in-26.is, c.linear-in-26.ensures, c.eight-in-26.ensures)
