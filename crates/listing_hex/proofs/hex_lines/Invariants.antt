-- The invariants and measures of the loops of `hex_lines`.
use Rattle.listing_lines.proofs.Placed.{Left}
use Rattle.listing_lines.specs.Lines.{hex_lines}
use lib.ListN.{drop}
use Prim.Native.Nat.{◌*◌}
use mathlib.Core.Path.{◌≡◌}
use Rattle.listing_hex.proofs.hex_lines.Given as goal

abbrev pub invariant-loop-w : goal.invariant-loop-w
invariant-loop-w l = (l.at ≡ 9 * l.w-index) × Left (hex_lines l.words) l.initial.out 0 (hex_lines (drop l.w-index l.words)) l.out l.at
