-- Bytes handed on piece by piece: a piece follows what was handed on before, and behind the last one nothing is left. Rests on listing's laws of
-- what is still to be listed.
use mathlib.Core.Path.{◌≡◌, refl, sym, ap, ◌∙◌}
use mathlib.Core.Bool.{Bool, true, false}
use mathlib.Core.List.{List, [], ◌++◌}
use Prim.Native.Nat.{ℕ, suc, ◌+◌, ◌-◌, ◌*◌, ◌≤◌, ◌<◌}
use native.Mathlib.Omega.{arith}
use lib.ListN.{length, take, drop, length-take, length-drop, length-append}
use lib.Seq.{take_at, drop_at, drop-drop}
use Rattle.listing_lines.specs.Writing.{Wrote}
use Rattle.listing_lines.proofs.Placed.{all_given, all_taken}
use Rattle.listing.specs.Sharelist.{listing}
use Rattle.listing_parts.specs.Parts.{word_bytes}
use Rattle.listing.specs.Pieces.{ListsPiece, piece_text, piece_next, piece_last}
use Rattle.listing.proofs.Piecewise.{piece_most, rest_from, rest_on, rest_none, rest_most}
use Rattle.listing.proofs.Whole.{rest_is_listing}
use Rattle.sharelist.specs.HandedOn.{Follows}

-- what follows lies within
pub follows_within : (listed : List ℕ) (sent : ℕ) (text : List ℕ) → Follows listed sent text → length text ≤ length listed - sent
follows_within listed sent text e = omega (arith, ap length e, length-take (length text) (drop sent listed), length-drop sent listed)

-- a listing is short enough to be counted
pub listing_most : (input : List ℕ) → length (listing input) < 2147483648
listing_most input = omega (arith, rest_most input, ap length (rest_is_listing input))

-- before piece `at`, `sent` bytes of the listing were handed on, and what is left begins with the piece
pub record Standing (input : List ℕ) (sent at : ℕ) : Type 0 where
  pub within : sent ≤ length (listing input)
  pub left : drop sent (listing input) ≡ rest_from input at

pub begun : (input : List ℕ) {sent : ℕ} → sent ≡ 0 → Standing input sent 0
begun input e = rw e (record { within = omega arith; left = sym (rest_is_listing input) })

module _ {input : List ℕ} {sent at : ℕ} (S : Standing input sent at) {out after : List ℕ} {bytes next : ℕ} {last : Bool} (P : ListsPiece input at out after bytes next last) (r : word_bytes ≤ length out) where
  -- the piece's text stands in front of what was lent for it
  text_is : take bytes after ≡ piece_text (length out) input at
  text_is = all_taken P.text (piece_most (length out) r input at)

  splits : drop sent (listing input) ≡ take bytes after ++ rest_from input (piece_next (length out) input at)
  splits = S.left ∙ rest_on (length out) input at ∙ ap (λ (t : List ℕ). t ++ rest_from input (piece_next (length out) input at)) (sym text_is)

  pub piece_follows : Follows (listing input) sent (take bytes after)
  piece_follows = ap (take (length (take bytes after))) splits ∙ take_at (take bytes after) (rest_from input (piece_next (length out) input at)) (length (take bytes after)) refl

  -- handed on, it leaves what the next one begins with
  behind : drop (sent + length (take bytes after)) (listing input) ≡ rest_from input (piece_next (length out) input at)
  behind = sym (drop-drop (length (take bytes after)) sent (listing input)) ∙ ap (drop (length (take bytes after))) splits ∙ drop_at (take bytes after) (rest_from input (piece_next (length out) input at)) (length (take bytes after)) refl

  reached : sent + length (take bytes after) ≤ length (listing input)
  reached = omega (arith, S.within, follows_within (listing input) sent (take bytes after) piece_follows)

  pub goes_on : {sent' : ℕ} → sent' ≡ sent + length (take bytes after) → Standing input sent' next
  goes_on e = rw (e, P.moved) (record { within = reached; left = behind })

  -- and after the last one all bytes were
  pub all_sent : {sent' : ℕ} → sent' ≡ sent + length (take bytes after) → last ≡ true → sent' ≡ length (listing input)
  all_sent e t =
      omega (
        arith,
        reached,
        ap length (behind ∙ rest_none (length out) input at (sym P.ends ∙ t)),
        length-drop (sent + length (take bytes after)) (listing input),
      )
