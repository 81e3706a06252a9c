-- `sharelist::list` meets its contract: a piece follows what was handed on before, and behind the last one nothing is left.
use mathlib.Core.Path.{◌≡◌, sym, ◌∙◌}
use Prim.Native.Nat.{◌+◌}
use native.Mathlib.Omega.{arith}
use lib.ListN.{length, take}
use borrow.Author.Rules.{rules}
use Rattle.listing_lines.proofs.Placed.{as_long}
use Rattle.listing.proofs.Piecewise.{goes_on}
use Rattle.sharelist.proofs.Handing as handing
use Rattle.sharelist.proofs.Handing.{begun, piece_follows, all_sent}
use Rattle.sharelist.proofs.list.Goals as goal

pub loop-at-init : goal.loop-at-init
loop-at-init g c = (c.large_buffer-buffer.ensures, begun _ c.requires.sent_value)

pub hand_on-requires : goal.hand_on-requires
hand_on-requires g c =
    record { fd_value = c.requires.fd_value; follows = piece_follows c.loop-at.invariant.1 c.list_piece-piece.ensures (omega (arith, c.loop-at.invariant.0)) }

pub returns-then-piece : goal.returns-then-piece
returns-then-piece g c =
    let sent : c.hand_on.new.sent ≡ c.loop-at.sent + length (take c.list_piece-piece.result.bytes c.list_piece-piece.new.out) = c.in_ok-hand_on.ensures in
    λ t. all_sent c.loop-at.invariant.1 c.list_piece-piece.ensures (omega (arith, c.loop-at.invariant.0)) sent c.if-piece.true

pub loop-at-smaller : goal.loop-at-smaller
loop-at-smaller g c = goes_on c.list_piece-piece.ensures c.if-piece.false (omega (arith, c.loop-at.invariant.0))

pub loop-at-preserved : goal.loop-at-preserved
loop-at-preserved g c =
    let sent : c.hand_on.new.sent ≡ c.loop-at.sent + length (take c.list_piece-piece.result.bytes c.list_piece-piece.new.out) = c.in_ok-hand_on.ensures in (
      c.loop-at.invariant.0 ∙ sym (as_long c.list_piece-piece.ensures.text),
      handing.goes_on c.loop-at.invariant.1 c.list_piece-piece.ensures (omega (arith, c.loop-at.invariant.0)) sent,
    )
