-- `listing_lines::line::push_labelled` meets its contract: the digits are std's.
use mathlib.Core.Path.{ap, ap₂, ◌∙◌}
use mathlib.Core.List.{List, ◌++◌, append_assoc}
use Prim.Native.Nat.{ℕ}
use native.Mathlib.Omega.{arith}
use lib.ListN.{length}
use Rattle.listing_lines.specs.Lines.{decimal}
use Rattle.listing_lines.proofs.Decimal.{decimal_is, decimal_most}
use Rattle.listing_lines.proofs.line.push_labelled.Goals as goal

pub push_str-requires-2 : goal.push_str-requires-2
push_str-requires-2 c =
    omega (arith, c.push_str.ensures.len, ap length (c.format.ensures.text ∙ decimal_is c.args.n (omega arith)), decimal_most c.args.n)

pub returns-clause-text : goal.returns-clause-text
returns-clause-text c =
    c.push_str-2.ensures.bytes
    ∙ ap₂ (λ (x y : List ℕ). x ++ y) c.push_str.ensures.bytes (c.format.ensures.text ∙ decimal_is c.args.n (omega arith))
    ∙ append_assoc c.args.line.now.bytes c.args.label.now (decimal c.args.n)

pub returns-clause-bound : goal.returns-clause-bound
returns-clause-bound c =
    omega (
      arith,
      c.push_str-2.ensures.len,
      c.push_str.ensures.len,
      ap length (c.format.ensures.text ∙ decimal_is c.args.n (omega arith)),
      decimal_most c.args.n,
    )
