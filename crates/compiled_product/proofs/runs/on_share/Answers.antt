-- Written by tools/compile_plan.py: change the plan or the compiler, not this file.
-- `compiled_product::runs::on_share` meets its contract, run by run.
use mathlib.Core.Path.{◌≡◌, refl, ap, ◌∙◌}
use mathlib.Core.List.{List, [], ◌∷◌}
use Prim.Native.Nat.{ℕ, ◌+◌, ◌-◌, ◌≤◌, ◌<◌}
use native.Mathlib.Omega.{arith}
use lib.ListN.{get_or}
use borrow.Author.Rules.{rules}
use Rattle.compiled.proofs.Reorder.{at, in_order, reorders}
use Rattle.compiled.proofs.Rest.{between, numbered}
use Rattle.compiled_product.specs.inner.Runs.{after, first, last_run, row, runs}
use Rattle.compiled_product.proofs.runs.on_share.Goals as goal

-- its words in the order in which they are done
abbrev row_done : ℕ → List ℕ
row_done q = 538448389 ∷ 1612451329 ∷ 538186760 ∷ 1344539199 ∷ (1613234688 + q) ∷ 538709513 ∷ 1611926017 ∷ 1881674752 ∷ 538971141 ∷ 1613239306 ∷ 539497476 ∷ 539232778 ∷ []

numbered_run : (k : ℕ) → (1 ≤ k) × (k < 52) → get_or runs k last_run ≡ row (k - 0)
numbered_run k h = numbered row after last_run first 1 51 k h.0 h.1 ∙ ap row (omega (arith, h.0))

pub overflow_sub-k : goal.overflow_sub-k
overflow_sub-k c = omega (arith, between 1 52 25 _ c.in_default.in_default-own.rest c.requires.0)

pub overflow_cast-k : goal.overflow_cast-k
overflow_cast-k c = omega (arith, between 1 52 25 _ c.in_default.in_default-own.rest c.requires.0)

pub shifted-requires : goal.shifted-requires
shifted-requires c = (refl, refl, omega (arith, between 1 52 25 _ c.in_default.in_default-own.rest c.requires.0), search rules, search rules)

pub returns-in-0 : goal.returns-in-0
returns-in-0 c = in_order (1613234688 ∷ 1881674752 ∷ 1075315200 ∷ 271319041 ∷ 1342963724 ∷ 1074790400 ∷ 1346639412 ∷ 1611400716 ∷ 1613239306 ∷ 1343753228 ∷ 1612188684 ∷ 1343227916 ∷ 537666051 ∷ 270270464 ∷ 1611663372 ∷ 1343490048 ∷ 538970630 ∷ 539494410 ∷ 539232778 ∷ []) (get_or runs 0 last_run) c.args.i c.args.cells.now (rw (c.linear.ensures, c.two.ensures, c.sixteen.ensures)) (ap (λ (k : ℕ). get_or runs k last_run) c.in-0.is) tt

pub returns-in-52 : goal.returns-in-52
returns-in-52 c = rw (c.in-52.is, c.eight.ensures)

pub returns-in-53 : goal.returns-in-53
returns-in-53 c = in_order (1346633729 ∷ 538448389 ∷ 538183176 ∷ 1612451329 ∷ 1344539199 ∷ 1344798732 ∷ 538710535 ∷ 1611926017 ∷ 1615077941 ∷ 1346642485 ∷ 538190341 ∷ 1346634241 ∷ 1615077941 ∷ 1346642485 ∷ 538452486 ∷ 1346639413 ∷ 1613239308 ∷ 539497489 ∷ 538970630 ∷ 539232778 ∷ []) (get_or runs 53 last_run) c.args.i c.args.cells.now (rw (c.four.ensures, c.sixteen-in-53.ensures)) (ap (λ (k : ℕ). get_or runs k last_run) c.in-53.is) tt

pub returns-in-54 : goal.returns-in-54
returns-in-54 c = rw (c.in-54.is, c.linear-in-54.ensures, c.two-in-54.ensures, c.four-in-54.ensures)

pub returns-in-55 : goal.returns-in-55
returns-in-55 c = in_order (1346640385 ∷ 1077417984 ∷ 1077681152 ∷ []) (get_or runs 55 last_run) c.args.i c.args.cells.now (rw (c.linear-in-55.ensures, c.two-in-55.ensures)) (ap (λ (k : ℕ). get_or runs k last_run) c.in-55.is) tt

pub returns-in-56 : goal.returns-in-56
returns-in-56 c = rw (c.in-56.is, c.two-in-56.ensures)

pub returns-in-57 : goal.returns-in-57
returns-in-57 c = rw (c.in-57.is, c.linear-in-57.ensures, c.two-in-57.ensures)

pub returns-in-58 : goal.returns-in-58
returns-in-58 c = rw (c.in-58.is, c.two-in-58.ensures)

pub returns-in-59 : goal.returns-in-59
returns-in-59 c = rw (c.in-59.is, c.linear-in-59.ensures, c.two-in-59.ensures)

pub returns-in-60 : goal.returns-in-60
returns-in-60 c = rw (c.in-60.is, c.two-in-60.ensures)

pub returns-in-61 : goal.returns-in-61
returns-in-61 c = rw (c.in-61.is, c.linear-in-61.ensures, c.two-in-61.ensures)

pub returns-in-62 : goal.returns-in-62
returns-in-62 c = rw (c.in-62.is, c.two-in-62.ensures)

pub returns-in-63 : goal.returns-in-63
returns-in-63 c = rw (c.in-63.is, c.linear-in-63.ensures, c.two-in-63.ensures)

pub returns-in-64 : goal.returns-in-64
returns-in-64 c = rw (c.in-64.is, c.two-in-64.ensures)

pub returns-in-65 : goal.returns-in-65
returns-in-65 c = rw (c.in-65.is, c.linear-in-65.ensures, c.eight-in-65.ensures)

pub returns-in-66 : goal.returns-in-66
returns-in-66 c = rw (c.in-66.is, c.two-in-66.ensures, c.four-in-66.ensures, c.sixteen-in-66-2.ensures, c.sixteen-in-66.ensures)

pub returns-in-67 : goal.returns-in-67
returns-in-67 c = rw (c.in-67.is, c.eight-in-67.ensures, c.sixteen-in-67.ensures)

pub returns-in-68 : goal.returns-in-68
returns-in-68 c = in_order (270795776 ∷ 1611927584 ∷ 1075843072 ∷ 1346633729 ∷ 1344278576 ∷ 1615077941 ∷ 1612714032 ∷ 1346642448 ∷ 538972177 ∷ 1346634241 ∷ 1615077941 ∷ 1346642464 ∷ 538976776 ∷ 1615075380 ∷ 541331985 ∷ 1612980737 ∷ 541336073 ∷ 1346642485 ∷ 538976776 ∷ 1075843072 ∷ 1615073288 ∷ []) (get_or runs 68 last_run) c.args.i c.args.cells.now (rw (c.linear-in-68.ensures, c.four-in-68.ensures, c.sixteen-in-68.ensures)) (ap (λ (k : ℕ). get_or runs k last_run) c.in-68.is) tt

pub returns-in-69 : goal.returns-in-69
returns-in-69 c = rw (c.in-69.is, c.linear-in-69.ensures)

pub returns-in-70 : goal.returns-in-70
returns-in-70 c = rw (c.in-70.is, c.linear-in-70.ensures)

pub returns-in-71 : goal.returns-in-71
returns-in-71 c = rw (c.in-71.is, c.linear-in-71.ensures)

pub returns-in-72 : goal.returns-in-72
returns-in-72 c = rw (c.in-72.is, c.four-in-72.ensures, c.eight-in-72.ensures, c.sixteen-in-72.ensures)

pub returns-in-73 : goal.returns-in-73
returns-in-73 c = rw (c.in-73.is, c.linear-in-73.ensures, c.two-in-73.ensures, c.eight-in-73.ensures)

pub returns-in-74 : goal.returns-in-74
returns-in-74 c = rw (c.in-74.is, c.two-in-74.ensures, c.four-in-74.ensures, c.eight-in-74.ensures, c.sixteen-in-74.ensures)

pub returns-in-75 : goal.returns-in-75
returns-in-75 c = rw (c.in-75.is, c.eight-in-75.ensures)

pub returns-in-76 : goal.returns-in-76
returns-in-76 c = rw (c.in-76.is, c.linear-in-76.ensures, c.eight-in-76.ensures)

pub returns-in_default : goal.returns-in_default
returns-in_default c = in_order (row_done (c.args.k - 0)) (row (c.args.k - 0)) c.args.i c.args.cells.now (rw (c.linear-in_default.ensures, c.two-in_default.ensures, c.four-in_default-2.ensures, c.shifted.ensures, c.four-in_default.ensures)) (numbered_run _ (between 1 52 25 _ c.in_default.in_default-own.rest c.requires.0)) (at 52 (λ q. reorders (row q) (row_done q)) (c.args.k - 0) tt (omega (arith, between 1 52 25 _ c.in_default.in_default-own.rest c.requires.0)))
