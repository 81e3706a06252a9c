-- The listing piece by piece: the words and the opening by the answer's cases, what a piece comes to by the calls that it makes, and
-- that pieces fit, move on and together list all words. Rests on Parts' count of the words that fit.
use mathlib.Core.Path.{◌≡◌, refl, sym, ap, ap₂, ◌∙◌}
use mathlib.Core.Bool.{Bool, true, false, cond}
use mathlib.Core.List.{List, [], ◌∷◌, ◌++◌, append_assoc}
use Prim.Native.Nat.{ℕ, zero, suc, ◌+◌, ◌-◌, ◌*◌, ◌≤◌, ◌<◌}
use native.Mathlib.Numerals.{add-one}
use native.Mathlib.Omega.{arith}
use lib.Dec.{leb, eqb}
use lib.ListN.{length, take, drop, length-append, take-append-drop, drop_of_length-le}
use lib.Seq.{drop-drop}
use borrow.Author.Tests.{leb-true, leb-false, eqb-true, eqb-false, ne_eqb, lt-leb}
use Rattle.word.specs.Layout.{plan_max}
use Rattle.std.specs.Prelude.{Ok, Err}
use Rattle.checks.specs.declared.answer.Answer.{Answer}
use Rattle.checks.specs.declared.refusal.Refusal.{Refusal}
use Rattle.checks.specs.declared.refusal.Refusal.TheVariants.{ShareCount, TooLong, BadWord, Length, Place, Tape, Layer, Head}
use Rattle.checks.specs.declared.refusal.Counts.{Counts}
use Rattle.checks.specs.Answers.{kept_unless, answer_of, refusal_of}
use Rattle.translation.specs.Calls.{measured}
use Rattle.translation.proofs.Counted.{accepted}
use Rattle.listing_input.specs.Input.{list_answer, count_of, plan_read}
use Rattle.listing_lines.specs.Lines.{refused_line}
use Rattle.listing_lines.specs.Writing.{Wrote}
use Rattle.listing_parts.specs.Parts.{ListsPart, word_lines, lines_of, word_bytes}
use Rattle.listing.specs.Pieces.{ListsPiece, listed_words, opening_lines, opening_of, piece_count, piece_text, words_listed, piece_next, piece_last, pieces_from}
use Rattle.listing_lines.proofs.Placed.{fits}
use Rattle.listing_lines.proofs.Decimal.{decimal_most}
use Rattle.listing_input.proofs.Answered.{taken}
use Rattle.listing_parts.proofs.PlanWord.{lines_most}
use Rattle.listing_parts.proofs.Parts.{fit_some, fitted_most}
use Rattle.listing.proofs.Opened.{opening_lines_most}

-- ---- by the answer's cases

refused_number : (r : Refusal) → (refusal_of r).number ≡ 0 → ⊥
refused_number ShareCount h = omega arith
refused_number TooLong h = omega arith
refused_number (BadWord place) h = omega arith
refused_number Length h = omega arith
refused_number Place h = omega arith
refused_number Tape h = omega arith
refused_number Layer h = omega arith
refused_number Head h = omega arith

module _ (input : List ℕ) where
  pub listed_taken : (list_answer input).number ≡ 0 → listed_words input ≡ plan_read input
  unfolding listed_words
  listed_taken h = ap (λ (k : ℕ). kept_unless (eqb k 0) (plan_read input) []) h

  pub listed_none : ((list_answer input).number ≡ 0 → ⊥) → listed_words input ≡ []
  unfolding listed_words
  listed_none h = ap (λ (b : Bool). kept_unless b (plan_read input) []) (ne_eqb (list_answer input).number 0 h)

  pub opening_taken : (list_answer input).number ≡ 0 → opening_of input ≡ opening_lines (count_of input) (list_answer input).words (list_answer input).tape
  unfolding opening_of
  opening_taken h = rw h

  pub opening_refused : ((list_answer input).number ≡ 0 → ⊥) → opening_of input ≡ refused_line (list_answer input).number
  unfolding opening_of
  opening_refused h = rw (ne_eqb (list_answer input).number 0 h)

  -- the same by the call's result
  module _ {counts : Counts} (e : answer_of (Ok counts) ≡ list_answer input) where
    pub done : (list_answer input).number ≡ 0
    done = sym (ap (λ (a : Answer). a.number) e)

    pub opening_done : opening_of input ≡ opening_lines (count_of input) counts.words counts.tape
    opening_done =
        opening_taken done
        ∙ ap₂ (λ (words tape : ℕ). opening_lines (count_of input) words tape) (ap (λ (a : Answer). a.words) (sym e)) (ap (λ (a : Answer). a.tape) (sym e))

  module _ (r : Refusal) (e : answer_of (Err r) ≡ list_answer input) where
    pub not_done : (list_answer input).number ≡ 0 → ⊥
    not_done h = refused_number r (ap (λ (a : Answer). a.number) e ∙ h)

    pub opening_turned_down : opening_of input ≡ refused_line (refusal_of r).number
    opening_turned_down = opening_refused not_done ∙ ap (λ (a : Answer). refused_line a.number) (sym e)

  -- a share count that is taken is 8 at most
  pub count_most : (list_answer input).number ≡ 0 → count_of input ≤ 8
  count_most h = (accepted (count_of input) (plan_read input) (measured (count_of input) (plan_read input)) (taken input h)).most

  -- a plan that is listed has 2,048 words at most
  pub listed_most : length (listed_words input) ≤ 2048
  listed_most = by (eqb (list_answer input).number 0) refl
    where
      by : (b : Bool) → eqb (list_answer input).number 0 ≡ b → length (listed_words input) ≤ 2048
      by true e =
          let h = eqb-true (list_answer input).number 0 e in
          omega (arith, ap length (listed_taken h), (accepted (count_of input) (plan_read input) (measured (count_of input) (plan_read input)) (taken input h)).short)
      by false e = omega (arith, ap length (listed_none (eqb-false (list_answer input).number 0 e)))

-- ---- what a piece comes to

none_left : (k : ℕ) → eqb k 0 ≡ leb k 0
none_left zero = refl
none_left (suc k) = ne_eqb (suc k) 0 (λ e. omega arith) ∙ sym (lt-leb (suc k) 0 (omega arith))

module _ {input : List ℕ} {from : ℕ} {out after : List ℕ} {bytes : ℕ} where
  -- piece 0
  pub first_piece : {count : ℕ} → from ≡ 0 → count ≡ length (listed_words input) → Wrote (opening_of input) out after bytes
      → ListsPiece input from out after bytes 1 (eqb count 0)
  unfolding piece_text words_listed
  first_piece {count} z e w = rw z (record { text = w; moved = refl; ends = none_left count ∙ ap (λ (k : ℕ). leb k 0) e })

  -- each other one
  pub next_piece : {count k : ℕ} → 0 < from → count ≡ length (listed_words input)
      → ListsPart (count_of input) (listed_words input) (from - 1) out after k bytes
      → ListsPiece input from out after bytes (k + 1) (leb count k)
  unfolding piece_text words_listed
  next_piece {count} {k} h e p =
      let z : from ≡ suc (from - 1) = omega arith in
      rw z (record {
        text = p.lines;
        moved = add-one k ∙ ap suc p.moved;
        ends = ap₂ leb e p.moved;
      })

-- ---- a piece fits and moves on

opening_most : (input : List ℕ) → length (opening_of input) ≤ 96
unfolding refused_line
opening_most input = by (eqb (list_answer input).number 0) refl
  where
    by : (b : Bool) → eqb (list_answer input).number 0 ≡ b → length (opening_of input) ≤ 96
    by true e =
        rw (opening_taken input (eqb-true (list_answer input).number 0 e))
        (omega (arith, opening_lines_most (count_of input) (list_answer input).words (list_answer input).tape))
    by false e =
        rw (opening_refused input (eqb-false (list_answer input).number 0 e))
        (simp length-append (omega (arith, decimal_most (list_answer input).number)))

module _ (room : ℕ) (r : word_bytes ≤ room) (input : List ℕ) where
  pub piece_most : (from : ℕ) → length (piece_text room input from) ≤ room
  unfolding piece_text
  piece_most zero = omega (arith, opening_most input)
  piece_most (suc k) = fitted_most (count_of input) (drop k (listed_words input)) room

  -- a piece that is not the last goes on behind itself, at a word that is left
  pub piece_moves : (from : ℕ) → piece_last room input from ≡ false → (from < piece_next room input from) × (piece_next room input from ≤ length (listed_words input))
  unfolding words_listed
  piece_moves zero e = (omega arith, leb-false (length (listed_words input)) 0 e)
  piece_moves (suc k) e =
      let l : k + piece_count room input k < length (listed_words input) = leb-false _ _ e in
      (omega (arith, fit_some (count_of input) (listed_words input) k room (omega arith) r), omega arith)

-- so a loop over pieces ends
pub goes_on : {input : List ℕ} {from : ℕ} {out after : List ℕ} {bytes next : ℕ} {last : Bool} → ListsPiece input from out after bytes next last
    → last ≡ false → word_bytes ≤ length out → length (listed_words input) - next < length (listed_words input) - from
goes_on {input} {from} {out} p e r =
    let m = piece_moves (length out) r input from (sym p.ends ∙ e) in
    omega (arith, p.moved, m.0, m.1)

-- ---- what is still to be listed

lines_append : (n : ℕ) (xs ys : List ℕ) → lines_of n (xs ++ ys) ≡ lines_of n xs ++ lines_of n ys
lines_append n [] ys = refl
lines_append n (x ∷ xs) ys = ap (λ (l : List ℕ). word_lines n x ++ l) (lines_append n xs ys) ∙ sym (append_assoc (word_lines n x) (lines_of n xs) (lines_of n ys))

-- from piece 0 on all, and from piece k + 1 on the lines of the words from k on
abbrev pub rest_from : List ℕ → ℕ → List ℕ
rest_from input zero = opening_of input ++ lines_of (count_of input) (listed_words input)
rest_from input (suc k) = lines_of (count_of input) (drop k (listed_words input))

lines_most_of : (n : ℕ) (ws : List ℕ) → length (lines_of n ws) ≤ word_bytes * length ws
lines_most_of n [] = omega arith
lines_most_of n (w ∷ ws) = omega (arith, lines_most n w, length-append (word_lines n w) (lines_of n ws), lines_most_of n ws)

pub rest_most : (input : List ℕ) → length (rest_from input 0) ≤ 96 + word_bytes * 2048
rest_most input =
    omega (
      arith,
      opening_most input,
      length-append (opening_of input) (lines_of (count_of input) (listed_words input)),
      lines_most_of (count_of input) (listed_words input),
      listed_most input,
    )

module _ (room : ℕ) (input : List ℕ) where
  -- it begins with the piece, and goes on with what the next one begins
  pub rest_on : (from : ℕ) → rest_from input from ≡ piece_text room input from ++ rest_from input (piece_next room input from)
  unfolding piece_text words_listed
  rest_on zero = refl
  rest_on (suc k) =
      let n = count_of input in
      let ws = drop k (listed_words input) in
      let f = piece_count room input k in
      sym (ap (lines_of n) (take-append-drop f ws)) ∙ lines_append n (take f ws) (drop f ws)
      ∙ ap (λ (x : List ℕ). lines_of n (take f ws) ++ lines_of n x) (drop-drop f k (listed_words input))

  -- behind the last piece is nothing
  pub rest_none : (from : ℕ) → piece_last room input from ≡ true → rest_from input (piece_next room input from) ≡ []
  rest_none from e = ap (lines_of (count_of input)) (drop_of_length-le (listed_words input) (leb-true _ _ e))

-- ---- pieces in turn

module _ (room : ℕ) (r : word_bytes ≤ room) (input : List ℕ) where
  -- where `turns` pieces list what is left from each piece on, one more does
  behind : (turns : ℕ) → ((from : ℕ) → length (listed_words input) < from + turns → pieces_from turns room input from ≡ rest_from input from)
      → (from : ℕ) → length (listed_words input) < from + suc turns → pieces_from (suc turns) room input from ≡ rest_from input from
  behind turns on from l =
      ap₂ (λ (x y : List ℕ). x ++ y) (fits (piece_text room input from) (piece_most room r input from)) (by (piece_last room input from) refl)
      ∙ sym (rest_on room input from)
    where
      by : (b : Bool) → piece_last room input from ≡ b
          → cond b [] (pieces_from turns room input (piece_next room input from)) ≡ rest_from input (piece_next room input from)
      by true e = sym (rest_none room input from e)
      by false e = on (piece_next room input from) (omega (arith, (piece_moves room r input from e).0))

  in_turn : (turns from : ℕ) → length (listed_words input) < from + turns → pieces_from turns room input from ≡ rest_from input from
  in_turn zero zero l = absurd (omega arith)
  in_turn zero (suc k) l = sym (ap (lines_of (count_of input)) (drop_of_length-le (listed_words input) {i = k} (omega arith)))
  in_turn (suc turns) from l = behind turns (in_turn turns) from l

  -- the opening, then the lines of all words
  pub pieces_whole : pieces_from (1 + plan_max) room input 0 ≡ rest_from input 0
  pieces_whole = in_turn 2049 0 (omega (arith, listed_most input))
