-- `listing_lines::line::first_line` meets its contract.
use mathlib.Core.Path.{◌≡◌, ap, ◌∙◌}
use mathlib.Core.List.{List, [], ◌++◌, append_assoc}
use Prim.Native.Nat.{ℕ}
use native.Mathlib.Omega.{arith}
use lib.ListN.{length}
use Rattle.listing_lines.specs.Lines.{first_line}
use Rattle.listing_lines.proofs.line.first_line.Goals as goal

-- four texts added to a line that was empty
in_turn : {new one two three line : List ℕ} (a b c d : List ℕ) → line ≡ three ++ d → three ≡ two ++ c → two ≡ one ++ b → one ≡ new ++ a → new ≡ []
    → line ≡ a ++ (b ++ (c ++ d))
in_turn a b c d e f g h i = rw (e, f, g, h, i) (simp append_assoc)

pub push_str-requires : goal.push_str-requires
push_str-requires c = (omega arith, omega (arith, ap length c.new-line.ensures))

pub returns : goal.returns
unfolding first_line
returns c =
    let e : c.as_bytes.result.now ≡ first_line c.args.n c.args.words c.args.tape =
    c.as_bytes.ensures.value ∙ c.as_str.ensures.value
    ∙ in_turn _ _ _ _ c.push_str.ensures.bytes c.push_labelled-3.ensures.text c.push_labelled-2.ensures.text c.push_labelled.ensures.text c.new-line.ensures in
    rw (← e) c.put_text.ensures
