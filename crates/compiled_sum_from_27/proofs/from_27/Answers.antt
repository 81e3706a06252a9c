-- Written by tools/compile_plan.py: change the plan or the compiler, not this file.
-- `compiled_sum_from_27::from_27` meets its contract, run by run.
use mathlib.Core.Path.{refl, ap}
use mathlib.Core.List.{[], ◌∷◌}
use Prim.Native.Nat.{ℕ}
use lib.ListN.{get_or}
use Rattle.compiled.proofs.Reorder.{in_order}
use Rattle.compiled.proofs.Rest.{past_from}
use Rattle.compiled_sum_from_27.specs.inner.Runs.{last_run, runs}
use Rattle.compiled_sum_from_27.proofs.from_27.Goals as goal

pub eight-requires : goal.eight-requires
eight-requires c = (c.requires.1, c.requires.2)

pub eight-requires-in-28 : goal.eight-requires-in-28
eight-requires-in-28 c = (c.requires.1, c.requires.2)

pub two-requires-in-29 : goal.two-requires-in-29
two-requires-in-29 c = (c.requires.1, c.requires.2)

pub two-requires-in-30 : goal.two-requires-in-30
two-requires-in-30 c = (c.requires.1, c.requires.2)

pub two-requires-in-31 : goal.two-requires-in-31
two-requires-in-31 c = (c.requires.1, c.requires.2)

pub two-requires-in-32 : goal.two-requires-in-32
two-requires-in-32 c = (c.requires.1, c.requires.2)

pub two-requires-in-33 : goal.two-requires-in-33
two-requires-in-33 c = (c.requires.1, c.requires.2)

pub sixteen-requires : goal.sixteen-requires
sixteen-requires c = (c.requires.1, c.requires.2)

pub eight-requires-in-35 : goal.eight-requires-in-35
eight-requires-in-35 c = (c.requires.1, c.requires.2)

pub eight-requires-in-36 : goal.eight-requires-in-36
eight-requires-in-36 c = (c.requires.1, c.requires.2)

pub eight-requires-in-37 : goal.eight-requires-in-37
eight-requires-in-37 c = (c.requires.1, c.requires.2)

pub eight-requires-in-38 : goal.eight-requires-in-38
eight-requires-in-38 c = (c.requires.1, c.requires.2)

pub eight-requires-in-39 : goal.eight-requires-in-39
eight-requires-in-39 c = (c.requires.1, c.requires.2)

pub sixteen-requires-in-40 : goal.sixteen-requires-in-40
sixteen-requires-in-40 c = (c.requires.1, c.requires.2)

pub sixteen-requires-in-41 : goal.sixteen-requires-in-41
sixteen-requires-in-41 c = (c.requires.1, c.requires.2)

pub sixteen-requires-in-42 : goal.sixteen-requires-in-42
sixteen-requires-in-42 c = (c.requires.1, c.requires.2)

pub sixteen-requires-in-43 : goal.sixteen-requires-in-43
sixteen-requires-in-43 c = (c.requires.1, c.requires.2)

pub sixteen-requires-in-44 : goal.sixteen-requires-in-44
sixteen-requires-in-44 c = (c.requires.1, c.requires.2)

pub sixteen-requires-in-45 : goal.sixteen-requires-in-45
sixteen-requires-in-45 c = (c.requires.1, c.requires.2)

pub eight-requires-in-46 : goal.eight-requires-in-46
eight-requires-in-46 c = (c.requires.1, c.requires.2)

pub eight-requires-in-47 : goal.eight-requires-in-47
eight-requires-in-47 c = (c.requires.1, c.requires.2)

pub eight-requires-in-48 : goal.eight-requires-in-48
eight-requires-in-48 c = (c.requires.1, c.requires.2)

pub eight-requires-in-49 : goal.eight-requires-in-49
eight-requires-in-49 c = (c.requires.1, c.requires.2)

pub eight-requires-in-50 : goal.eight-requires-in-50
eight-requires-in-50 c = (c.requires.1, c.requires.2)

pub eight-requires-in-51 : goal.eight-requires-in-51
eight-requires-in-51 c = (c.requires.1, c.requires.2)

pub eight-requires-in-52 : goal.eight-requires-in-52
eight-requires-in-52 c = (c.requires.1, c.requires.2)

pub four-requires-in_default : goal.four-requires-in_default
four-requires-in_default c = (c.requires.1, c.requires.2)

pub returns-in-27 : goal.returns-in-27
returns-in-27 c = rw (c.in-27.is, c.two.ensures, c.eight.ensures)

pub returns-in-28 : goal.returns-in-28
returns-in-28 c = rw (c.in-28.is, c.linear.ensures, c.four.ensures, c.eight-in-28.ensures)

pub returns-in-29 : goal.returns-in-29
returns-in-29 c = rw (c.in-29.is, c.linear-in-29.ensures, c.two-in-29.ensures)

pub returns-in-30 : goal.returns-in-30
returns-in-30 c = rw (c.in-30.is, c.linear-in-30.ensures, c.two-in-30.ensures)

pub returns-in-31 : goal.returns-in-31
returns-in-31 c = rw (c.in-31.is, c.linear-in-31.ensures, c.two-in-31.ensures)

pub returns-in-32 : goal.returns-in-32
returns-in-32 c = rw (c.in-32.is, c.linear-in-32.ensures, c.two-in-32.ensures)

pub returns-in-33 : goal.returns-in-33
returns-in-33 c = rw (c.in-33.is, c.linear-in-33.ensures, c.two-in-33.ensures)

pub returns-in-34 : goal.returns-in-34
returns-in-34 c = in_order (540023308 ∷ 541595666 ∷ 1078469632 ∷ 1076896768 ∷ 1347429377 ∷ 1347167295 ∷ 1347953664 ∷ 1613764671 ∷ 1615603252 ∷ 1882200064 ∷ 1613764656 ∷ 541861388 ∷ 1613769760 ∷ 542644246 ∷ 1880370176 ∷ 1345331744 ∷ 540025356 ∷ []) (get_or runs 34 last_run) c.args.i c.args.cells.now (rw (c.linear-in-34.ensures, c.sixteen.ensures)) (ap (λ (k : ℕ). get_or runs k last_run) c.in-34.is) tt

pub returns-in-35 : goal.returns-in-35
returns-in-35 c = rw (c.in-35.is, c.linear-in-35.ensures, c.two-in-35.ensures, c.eight-in-35.ensures)

pub returns-in-36 : goal.returns-in-36
returns-in-36 c = rw (c.in-36.is, c.linear-in-36.ensures, c.two-in-36.ensures, c.eight-in-36.ensures)

pub returns-in-37 : goal.returns-in-37
returns-in-37 c = rw (c.in-37.is, c.linear-in-37.ensures, c.two-in-37.ensures, c.eight-in-37.ensures)

pub returns-in-38 : goal.returns-in-38
returns-in-38 c = rw (c.in-38.is, c.linear-in-38.ensures, c.two-in-38.ensures, c.eight-in-38.ensures)

pub returns-in-39 : goal.returns-in-39
returns-in-39 c = rw (c.in-39.is, c.linear-in-39.ensures, c.two-in-39.ensures, c.eight-in-39.ensures)

pub returns-in-40 : goal.returns-in-40
returns-in-40 c = rw (c.in-40.is, c.two-in-40.ensures, c.four-in-40.ensures, c.sixteen-in-40.ensures)

pub returns-in-41 : goal.returns-in-41
returns-in-41 c = in_order (1617178625 ∷ 1343231039 ∷ 1076896768 ∷ 1613239344 ∷ 1344803888 ∷ 1613764671 ∷ 1611663423 ∷ 537921548 ∷ 271582207 ∷ 543430681 ∷ 271581185 ∷ 540022788 ∷ 1345329162 ∷ 543437324 ∷ 1076889088 ∷ 1613764671 ∷ 1345329163 ∷ 540028940 ∷ 1345329168 ∷ 543430681 ∷ 1080308224 ∷ 1345590273 ∷ 1076893184 ∷ 1613764656 ∷ 1343494192 ∷ 540022789 ∷ 1343493633 ∷ 1611926064 ∷ 1348743712 ∷ 540281357 ∷ 1617179168 ∷ 1343500816 ∷ 540022789 ∷ 1611936264 ∷ 1343490576 ∷ 540281357 ∷ []) (get_or runs 41 last_run) c.args.i c.args.cells.now (rw (c.four-in-41.ensures, c.sixteen-in-41-2.ensures, c.sixteen-in-41.ensures)) (ap (λ (k : ℕ). get_or runs k last_run) c.in-41.is) tt

pub returns-in-42 : goal.returns-in-42
returns-in-42 c = rw (c.in-42.is, c.four-in-42.ensures, c.sixteen-in-42.ensures)

pub returns-in-43 : goal.returns-in-43
returns-in-43 c = rw (c.in-43.is, c.four-in-43.ensures, c.sixteen-in-43.ensures)

pub returns-in-44 : goal.returns-in-44
returns-in-44 c = rw (c.in-44.is, c.four-in-44.ensures, c.sixteen-in-44.ensures)

pub returns-in-45 : goal.returns-in-45
returns-in-45 c = rw (c.in-45.is, c.two-in-45.ensures, c.eight-in-45.ensures, c.sixteen-in-45-2.ensures, c.sixteen-in-45.ensures)

pub returns-in-46 : goal.returns-in-46
returns-in-46 c = rw (c.in-46.is, c.two-in-46.ensures, c.four-in-46.ensures, c.eight-in-46.ensures)

pub returns-in-47 : goal.returns-in-47
returns-in-47 c = rw (c.in-47.is, c.two-in-47.ensures, c.four-in-47.ensures, c.eight-in-47.ensures)

pub returns-in-48 : goal.returns-in-48
returns-in-48 c = rw (c.in-48.is, c.two-in-48.ensures, c.four-in-48.ensures, c.eight-in-48.ensures)

pub returns-in-49 : goal.returns-in-49
returns-in-49 c = rw (c.in-49.is, c.two-in-49.ensures, c.four-in-49.ensures, c.eight-in-49.ensures)

pub returns-in-50 : goal.returns-in-50
returns-in-50 c = rw (c.in-50.is, c.two-in-50.ensures, c.four-in-50.ensures, c.eight-in-50.ensures)

pub returns-in-51 : goal.returns-in-51
returns-in-51 c = rw (c.in-51.is, c.two-in-51.ensures, c.eight-in-51.ensures)

pub returns-in-52 : goal.returns-in-52
returns-in-52 c = rw (c.in-52.is, c.four-in-52.ensures, c.eight-in-52.ensures)

pub returns-in_default : goal.returns-in_default
returns-in_default c = rw (past_from runs last_run 27 26 _ refl c.in_default.in_default-own.rest c.requires.0, c.four-in_default.ensures)
