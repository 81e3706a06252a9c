-- What is written once per share by where the cells lie: in a row, or no cell at all; and room for it. Rests on masking's Rising.
use mathlib.Core.Path.{◌≡◌, refl, ap}
use mathlib.Core.List.{List, ◌∷◌, map}
use Prim.Native.Nat.{ℕ, zero, suc, ◌+◌, ◌≤◌, ◌<◌}
use native.Mathlib.Omega.{arith}
use lib.ListN.{length, length-map}
use Rattle.word.specs.declared.step.Step.{Step}
use Rattle.word.specs.Encoding.{word_of}
use Rattle.masking.specs.Translation.{shares, up_from}
use Rattle.masking.proofs.emitted.Rising.{length_from}
use Rattle.emission_rows.specs.declared.Cells.{Cells}
use Rattle.emission_rows.specs.inner.Written.{Room, cells_on, Fits}

-- cells in a row from c on, and a field that is no cell
abbrev pub in_row : ℕ → Cells
in_row c = record { first = c; over = 1 }

abbrev pub fixed : ℕ → Cells
fixed k = record { first = k; over = 0 }

pub row_fits : (c : ℕ) → c < 505 → Fits (in_row c)
row_fits c l = record { field = omega arith }

pub fixed_fits : (k : ℕ) → k < 512 → Fits (fixed k)
fixed_fits k l = record { field = omega arith }

pub words_each : (g : ℕ → Step) (h : ℕ → ℕ) → ((i : ℕ) → word_of (g i) ≡ h i) → (s c : ℕ) → map word_of (map g (up_from s c)) ≡ map h (up_from s c)
words_each g h e s zero = refl
words_each g h e s (suc c) = rw (e s) (ap (λ (r : List ℕ). h s ∷ r) (words_each g h e (suc s) c))

pub in_row_is : (c i : ℕ) → c + i ≡ cells_on (in_row c) i
in_row_is c i = omega arith

pub stays : (k i : ℕ) → k ≡ cells_on (fixed k) i
stays k i = omega arith

-- room for a step of each share
pub room_each : (f : ℕ → Step) (n : ℕ) {out : List ℕ} {at : ℕ} → Room out at (map f (shares n)) → at + n ≤ length out
room_each f n r = omega (arith, r.fits, length-map (shares n) f, length_from 0 n)
