-- What the rule of share programs says of a step: its cells are of the 512, and its number fits.
use mathlib.Core.Bool.{not}
use mathlib.Core.List.{◌∷◌}
use Prim.Native.Nat.{◌<◌}
use lib.Dec.{T, eqb}
use Rattle.word.specs.declared.step.Step.{Step}
use Rattle.word.specs.Table.{dest, reads, Each}
use Rattle.word.specs.Encoding.{kind_number, number_fits, within, in_program}
use Rattle.word.proofs.Ranges.{both, within_cells, within_number}

module _ (s : Step) (h : T (in_program s)) where
  in_range : T (within 512 s)
  in_range = (both (not (eqb (kind_number s) 8)) (within 512 s) h).1

  pub program_cells : Each (λ c. c < 512) (dest s ∷ reads s)
  program_cells = within_cells 512 s in_range

  pub program_number : T (number_fits s)
  program_number = within_number 512 s in_range
