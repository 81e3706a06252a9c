-- There is room for more, in the slice that was lent. The measure: the room that is left.
use mathlib.Core.Path.{◌≡◌}
use Prim.Native.Nat.{◌-◌, ◌<◌}
use lib.ListN.{length}
use Rattle.listing_input.specs.Input.{input_max}
use Rattle.sharelist.proofs.read_input.Given as goal

abbrev pub invariant-loop-from : goal.invariant-loop-from
invariant-loop-from g l = (l.count < length l.input) × (length l.input ≡ length l.initial.input) × (input_max < length l.initial.input)

abbrev pub decreases-loop-from : goal.decreases-loop-from
decreases-loop-from g l = length l.input - l.count
