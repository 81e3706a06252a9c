-- A built-in plan by its steps: where a run of them leaves the operation in register 2, all that is asked of a built-in plan holds. A model is such a run
-- by computation, from any registers; every plan but the product's, which goes by its rows, has one.
-- Rests on Registers and WellFormed.
use mathlib.Core.Path.{◌≡◌, sym, ap, ◌∙◌}
use mathlib.Core.Bool.{Bool, ◌&&◌}
use mathlib.Core.List.{List, map}
use Prim.Native.Nat.{ℕ, ◌^◌, ◌<◌}
use lib.Dec.{T, leb, leb→le}
use lib.ListN.{length, get_or}
use Rattle.word.specs.declared.step.Step.{Step}
use Rattle.word.specs.Encoding.{word_of}
use Rattle.word.specs.Layout.{plan_max}
use Rattle.word.proofs.Ranges.{both}
use Rattle.plans.specs.Computes.{Computes}
use Rattle.plans.proofs.Registers.{run_steps, all_in_plan, run_steps_is, tab, tabbed}
use Rattle.plans.proofs.WellFormed.{none_bad, each_good}

-- a computed test of the steps: each can stand in a plan, and there are not too many
abbrev pub well_formed : List Step → Bool
well_formed ss = all_in_plan ss && leb (length (map word_of ss)) plan_max

pub steps_compute : (ss : List Step) (op : ℕ → ℕ → ℕ) → T (well_formed ss)
    → ((cells : List ℕ) → length cells ≡ 32 → ((r : ℕ) → get_or cells r 0 < 2 ^ 64) → get_or (run_steps ss cells) 2 0 ≡ op (get_or cells 0 0) (get_or cells 1 0))
    → Computes (map word_of ss) op
steps_compute ss op fit result =
    let f = both (all_in_plan ss) (leb (length (map word_of ss)) plan_max) fit in
    record {
      short = leb→le (length (map word_of ss)) plan_max f.1;
      none_bad = none_bad ss f.0;
      entries = each_good (map word_of ss) (none_bad ss f.0);
      result = λ cells len small. ap (λ (l : List ℕ). get_or l 2 0) (run_steps_is ss f.0 cells) ∙ result cells len small;
    }

pub plan_computes : (ss : List Step) (op : ℕ → ℕ → ℕ) → T (well_formed ss)
    → ((f : ℕ → ℕ) → ((r : ℕ) → f r < 2 ^ 64) → get_or (run_steps ss (tab f 0 32)) 2 0 ≡ op (f 0) (f 1)) → Computes (map word_of ss) op
plan_computes ss op fit model =
    steps_compute ss op fit
    (λ cells len small. ap (λ (l : List ℕ). get_or (run_steps ss l) 2 0) (sym (tabbed cells len)) ∙ model (λ r. get_or cells r 0) small)
