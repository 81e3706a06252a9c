-- The opening put together: the first line, and the head's behind it, in a text of 96 bytes. Rests on Placed's writing in parts.
use mathlib.Core.Path.{◌≡◌, sym, ap, ◌∙◌}
use mathlib.Core.List.{List, [], ◌∷◌, ◌++◌, append-nil}
use Prim.Native.Nat.{ℕ, ◌+◌, ◌-◌, ◌≤◌}
use native.Mathlib.Omega.{arith}
use lib.ListN.{length, take, drop, length-append}
use borrow.Rule.Slice.PartMut.{put_mid}
use Rattle.word.specs.Head.{head_word}
use Rattle.listing_lines.specs.Lines.{hex_line, hex_lines, first_line}
use Rattle.listing_lines.specs.Writing.{Wrote, Appends}
use Rattle.listing_lines.proofs.Decimal.{decimal_most}
use Rattle.listing_lines.proofs.Placed.{start, renamed, part, whole, all_given, appended, appends_long}
use Rattle.listing_hex.proofs.Hex.{line_length, lines_length}
use Rattle.listing_parts.proofs.Parts.{in_part}
use Rattle.listing.specs.Pieces.{opening_lines}

first_most : (n words tape : ℕ) → length (first_line n words tape) ≤ 81
unfolding first_line
first_most n words tape = simp length-append (omega (arith, decimal_most n, decimal_most words, decimal_most tape))

pub opening_lines_most : (n words tape : ℕ) → length (opening_lines n words tape) ≤ 90
opening_lines_most n words tape =
    omega (arith, length-append (first_line n words tape) (hex_line (head_word n)), first_most n words tape, line_length (head_word n))

module _ (n words tape : ℕ) {out after : List ℕ} {first : ℕ} (size : length out ≡ 96) (w : Wrote (first_line n words tape) out after first) where
  -- behind the first line there is room for another
  pub first_ends : first ≤ 81
  first_ends = omega (arith, all_given w (omega (arith, first_most n words tape)), first_most n words tape)

  -- the head's line is written there
  pub opened : {head : ℕ} → head ≡ head_word n → {rest : List ℕ} {second : ℕ} → Wrote (hex_lines (head ∷ [])) (take (96 - first) (drop first after)) rest second
      → Appends (opening_lines n words tape) out 0 (put_mid first (96 - first) after rest) (first + second)
  opened {head} e {rest} {second} v =
      let F = first_line n words tape in
      let H = hex_lines (head ∷ []) in
      let a = appended w (omega (arith, first_most n words tape)) in
      let l : length after ≡ 96 = appends_long a ∙ size in
      let b : Appends H after first (put_mid first (96 - first) after rest) (first + second) =
      rw l at (in_part H after first (omega (arith, first_ends)) (omega (arith, first_ends, lines_length (head ∷ []))) (rw (← l) at v)) in
      let t : F ++ H ≡ opening_lines n words tape = ap (λ (x : List ℕ). F ++ x) (append-nil (hex_line head)) ∙ ap (λ (k : ℕ). F ++ hex_line k) e in
      rw t at (whole (part H [] (renamed (sym (append-nil H)) (part F H (start (F ++ H) out 0) a)) b))
