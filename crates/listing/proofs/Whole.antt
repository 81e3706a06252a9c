-- The pieces in turn are the listing.
use mathlib.Core.Path.{◌≡◌, refl, sym, ap₂, ◌∙◌}
use mathlib.Core.Bool.{Bool, true, false, cond}
use mathlib.Core.List.{List, [], ◌∷◌, ◌++◌, append-nil, append_assoc}
use Prim.Native.Nat.{ℕ}
use lib.Dec.{eqb}
use borrow.Author.Tests.{le-leb, eqb-true, eqb-false}
use Rattle.word.specs.Encoding.{plan_step}
use Rattle.word.specs.Head.{head_word}
use Rattle.word.specs.Layout.{is_share_count}
use Rattle.masking.specs.Foretold.{Accepted}
use Rattle.masking.specs.Translation.{program, headed, words_for}
use Rattle.translation.specs.Calls.{measured}
use Rattle.translation.proofs.Counted.{accepted}
use Rattle.listing_input.specs.Input.{list_answer, count_of, plan_read}
use Rattle.listing.specs.Sharelist.{listing}
use Rattle.listing_lines.specs.Lines.{hex_line, hex_lines, first_line, refused_line}
use Rattle.listing_parts.specs.Parts.{lines_of}
use Rattle.listing.specs.Pieces.{PiecesAreListing}
use Rattle.listing_hex.proofs.Hex.{lines_append}
use Rattle.listing_input.proofs.Answered.{taken}
use Rattle.listing_parts.proofs.PlanWord.{lines_of_is}
use Rattle.listing.proofs.Piecewise.{listed_taken, listed_none, opening_taken, opening_refused, rest_from, pieces_whole}

-- the lines of a share program are those of its plan's words in turn
lines_good : (n : ℕ) → is_share_count n ≡ true → (plan : List ℕ) → hex_lines (program n plan) ≡ lines_of n plan
lines_good n e [] = refl
lines_good n e (w ∷ ws) =
    lines_append (words_for n (plan_step w)) (program n ws) ∙ ap₂ (λ (x y : List ℕ). x ++ y) (sym (lines_of_is n w e)) (lines_good n e ws)

pub lines_whole : (n : ℕ) (plan : List ℕ) → Accepted n plan → hex_lines (program n plan) ≡ lines_of n plan
lines_whole n plan A = lines_good n (rw (le-leb 2 n A.least, le-leb n 8 A.most)) plan

-- the listing is what is left from piece 0 on
pub rest_is_listing : (input : List ℕ) → rest_from input 0 ≡ listing input
unfolding listing
rest_is_listing input = by (eqb (list_answer input).number 0) refl
  where
    by : (b : Bool) → eqb (list_answer input).number 0 ≡ b
        → rest_from input 0
        ≡ cond b (first_line (count_of input) (list_answer input).words (list_answer input).tape ++ hex_lines (headed (count_of input) (plan_read input))) (refused_line (list_answer input).number)
    by true e =
        let h = eqb-true (list_answer input).number 0 e in
        let n = count_of input in
        let A = accepted n (plan_read input) (measured n (plan_read input)) (taken input h) in
        rw (opening_taken input h, listed_taken input h, lines_whole n (plan_read input) A)
        (append_assoc (first_line n (list_answer input).words (list_answer input).tape) (hex_line (head_word n)) (lines_of n (plan_read input)))
    by false e =
        let h = eqb-false (list_answer input).number 0 e in
        rw (opening_refused input h, listed_none input h) (append-nil (refused_line (list_answer input).number))

pub pieces_are_listing : PiecesAreListing
pieces_are_listing room r input = pieces_whole room r input ∙ rest_is_listing input
