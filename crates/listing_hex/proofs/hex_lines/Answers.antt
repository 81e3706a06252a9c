-- `listing_hex::hex_lines` meets its contract.
use mathlib.Core.Path.{ap, ◌∙◌}
use mathlib.Core.List.{List}
use Prim.Native.Nat.{ℕ, ◌+◌, ◌-◌}
use native.Mathlib.Omega.{arith}
use lib.ListN.{get_or, drop_of_length-le}
use borrow.Rule.Slice.PartMut.{put_mid}
use Rattle.listing_lines.specs.Lines.{hex_lines}
use Rattle.listing_lines.proofs.Placed.{whole, renamed, wrote, wrote_none}
use Rattle.listing_hex.proofs.Hex.{lines_on, line_fits, lines_length, line_put}
use Rattle.listing_hex.proofs.hex_lines.Goals as goal

pub returns-then-out-words : goal.returns-then-out-words
returns-then-out-words c = wrote_none _ _ (omega (arith, lines_length c.args.words.now))

pub loop-w-preserved : goal.loop-w-preserved
loop-w-preserved c =
    let out = c.loop-w.out in
    let at = c.loop-w.at in
    let words = c.args.words.now in
    let f = line_fits words c.loop-w.w-index c.loop-w.invariant.1 (omega arith) (omega (arith, lines_length words)) in (
      omega arith,
      lines_on words c.loop-w.w-index c.loop-w.invariant.1 (omega arith)
          (ap (λ (l : List ℕ). put_mid at (at + 9 - at) out l) (c.copy_from_slice.ensures.after ∙ c.hex_line.ensures)
          ∙ line_put (get_or words c.loop-w.w-index 0) out at f),
    )

pub returns : goal.returns
returns c =
    wrote (omega (arith, lines_length c.args.words.now))
    (whole (renamed (ap hex_lines (drop_of_length-le c.args.words.now c.loop-w-test.false)) c.loop-w.invariant.1))
