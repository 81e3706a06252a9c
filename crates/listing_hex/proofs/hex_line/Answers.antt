-- `listing_hex::hex_line` meets its contract.
use mathlib.Core.Path.{◌≡◌, ap, ◌∙◌}
use Prim.Native.Nat.{◌%◌}
use native.Mathlib.Omega.{arith}
use Rattle.listing_lines.specs.Lines.{hex_digit, hex_line}
use Rattle.listing_hex.proofs.hex_line.Goals as goal

pub returns : goal.returns
unfolding hex_line
returns c =
    let last : c.digit-8.result ≡ hex_digit (c.args.w % 16) = c.digit-8.ensures ∙ ap hex_digit (omega arith) in
    rw (c.digit.ensures, c.digit-2.ensures, c.digit-3.ensures, c.digit-4.ensures, c.digit-5.ensures, c.digit-6.ensures, c.digit-7.ensures, last)
