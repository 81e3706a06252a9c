-- The invariants and measures of the loops of `plan_words`.
use mathlib.Core.List.{map}
use lib.ListN.{drop}
use Rattle.std.specs.Int.{w32, from_le_bytes}
use Rattle.listing_lines.proofs.Placed.{Left}
use Rattle.listing_input.proofs.plan_words.Given as goal

abbrev pub invariant-loop-i : goal.invariant-loop-i
invariant-loop-i l = Left (map (from_le_bytes w32) l.words) l.initial.plan 0 (drop l.i (map (from_le_bytes w32) l.words)) l.plan l.i
