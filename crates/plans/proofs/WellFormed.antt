-- A built-in plan is checked once as a whole: the computed test that all its steps are in a plan's range is carried to its words, of which
-- none is bad, and so to each of them.
-- Rests on word's Together and Checking.
use Rattle.std.specs.Prelude.{Option, Some}
use mathlib.Core.Path.{◌≡◌, refl, sym, ap, ◌∙◌, subst}
use mathlib.Core.List.{List, [], ◌∷◌, map}
use Prim.Native.Nat.{ℕ, suc, ◌<◌}
use lib.Dec.{T}
use lib.ListN.{length, get_or}
use Rattle.word.specs.declared.step.Step.{Step}
use Rattle.word.specs.Encoding.{in_plan, plan_step, word_of}
use Rattle.checks.specs.Answers.{first_of, first_bad}
use Rattle.word.proofs.Ranges.{both}
use Rattle.word.proofs.Together.{plan_exact}
use Rattle.checks.proofs.Checking.{first_bad_is}
use Rattle.plans.proofs.Registers.{all_in_plan}

pub none_bad : (ss : List Step) → T (all_in_plan ss) → first_bad plan_step (map word_of ss) ≡ length (map word_of ss)
none_bad [] h = refl
none_bad (s ∷ ss) h =
    let p = both (in_plan s) (all_in_plan ss) h in
    ap (λ (d : Option Step). first_of d (first_bad plan_step (map word_of ss))) (plan_exact.back s p.0).1 ∙ ap suc (none_bad ss p.1)

pub each_good : (plan : List ℕ) → first_bad plan_step plan ≡ length plan → (i : ℕ) → i < length plan → (s : Step) × (plan_step (get_or plan i 0) ≡ Some s)
each_good plan e i h = (first_bad_is plan_step plan).good i (subst (λ (n : ℕ). i < n) (sym e) h)
