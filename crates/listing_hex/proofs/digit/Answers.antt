-- `listing_hex::digit` meets its contract: the table has each digit in its place.
use native.Mathlib.Omega.{arith}
use Prim.Native.Nat.{◌/◌, ◌%◌, ◌^◌}
use Rattle.std.proofs.lemmas.List.FromFn.{get_or-map-range_with_len}
use Rattle.listing_lines.specs.Lines.{hex_digit}
use Rattle.listing_hex.proofs.digit.Goals as goal

pub returns : goal.returns
returns c =
    let x = c.args.w / 2 ^ c.args.place % 16 in
    get_or-map-range_with_len hex_digit 0 16 x x 0 (omega arith) (omega arith)
