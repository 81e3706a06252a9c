-- The invariants and measures of the loops of `list_part`.
use Rattle.listing_parts.proofs.Parts.{Going}
use lib.ListN.{length}
use Prim.Native.Nat.{◌-◌}
use Rattle.listing_parts.proofs.list_part.Given as goal

abbrev pub invariant-loop-next : goal.invariant-loop-next
invariant-loop-next l = Going l.n l.plan l.from l.initial.out l.out l.next l.at

abbrev pub decreases-loop-next : goal.decreases-loop-next
decreases-loop-next l = length l.plan - l.next
