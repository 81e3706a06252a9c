-- `sharelist::hand_on` meets its contract: the count stays within the listing's length.
use native.Mathlib.Omega.{arith}
use Rattle.listing.specs.Sharelist.{listing}
use Rattle.sharelist.proofs.Handing.{follows_within, listing_most}
use Rattle.sharelist.proofs.hand_on.Goals as goal

pub overflow_add-sent : goal.overflow_add-sent
overflow_add-sent g c =
    omega (
      arith,
      listing_most c.args.input.now,
      follows_within (listing c.args.input.now) c.args.sent.now c.args.text.now c.requires.follows,
    )
