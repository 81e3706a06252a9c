-- `listing_lines::line::refused_line` meets its contract.
use mathlib.Core.Path.{◌≡◌, ap, ◌∙◌}
use mathlib.Core.List.{List, [], ◌++◌}
use Prim.Native.Nat.{ℕ}
use native.Mathlib.Omega.{arith}
use lib.ListN.{length}
use Rattle.listing_lines.specs.Lines.{refused_line}
use Rattle.listing_lines.proofs.line.refused_line.Goals as goal

-- two texts added to a line that was empty
in_turn : {new one line : List ℕ} (a b : List ℕ) → line ≡ one ++ b → one ≡ new ++ a → new ≡ [] → line ≡ a ++ b
in_turn a b e f g = rw (e, f, g)

pub push_str-requires : goal.push_str-requires
push_str-requires c = (omega arith, omega (arith, ap length c.new-line.ensures))

pub returns : goal.returns
unfolding refused_line
returns c =
    let e : c.as_bytes.result.now ≡ refused_line c.args.number =
    c.as_bytes.ensures.value ∙ c.as_str.ensures.value
    ∙ in_turn _ _ c.push_str.ensures.bytes c.push_labelled.ensures.text c.new-line.ensures in
    rw (← e) c.put_text.ensures
