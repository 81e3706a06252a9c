-- `share_machine::exec::word_done` meets its contract.
use Rattle.std.specs.Prelude.{Option}
use mathlib.Core.Path.{◌≡◌, refl, sym, ap, ◌∙◌}
use mathlib.Core.List.{[], ◌∷◌}
use native.Mathlib.Nat.{add-zero}
use native.Mathlib.Omega.{arith}
use Rattle.word.specs.Encoding.{in_program, program_step}
use Rattle.word.specs.declared.step.Step.{Step}
use Rattle.word.proofs.Together.{taken_rule}
use Rattle.masking.specs.Machine.{with_step, rands_of, rands}
use Rattle.share_machine.proofs.exec.word_done.Goals as goal

pub returns-in_default : goal.returns-in_default
returns-in_default c = record { place = rw (← c.from.ensures, ← c.program_step.ensures, c.in_default.is) (sym (add-zero _)); cells = rw (← c.from.ensures, ← c.program_step.ensures, c.in_default.is) (refl) }

pub step_done-requires : goal.step_done-requires
step_done-requires c =
    let e = sym (ap program_step c.from.ensures) ∙ sym c.program_step.ensures ∙ c.in-Some.is in
    let k : rands (c.args.w ∷ []) ≡ _ = ap (λ (d : Option Step). rands_of (with_step d [])) e in record { t = taken_rule in_program c.args.w _ e; s_in_bounds = omega (arith, k, c.requires.w_in_bounds); cells_len = c.requires.cells_len }

pub returns : goal.returns
returns c = record { place = rw (← c.from.ensures, ← c.program_step.ensures, c.in-Some.is) (omega (arith, c.step_done.ensures.place)); cells = rw (← c.from.ensures, ← c.program_step.ensures, c.in-Some.is) (c.step_done.ensures.cells) }
