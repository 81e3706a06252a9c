-- Before each piece the bytes handed on are those of the listing up to it. The measure: the words that are left to list.
use Prim.Native.Nat.{◌-◌}
use mathlib.Core.Path.{◌≡◌}
use lib.ListN.{length}
use Rattle.listing.specs.Pieces.{listed_words}
use Rattle.sharelist.proofs.Handing.{Standing}
use Rattle.sharelist.proofs.list.Given as goal

abbrev pub invariant-loop-at : goal.invariant-loop-at
invariant-loop-at g l = (65536 ≡ length l.buffer) × Standing l.input l.sent l.at

abbrev pub decreases-loop-at : goal.decreases-loop-at
decreases-loop-at g l = length (listed_words l.input) - l.at
