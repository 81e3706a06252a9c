-- Two pairings in turn: one on the first L words of a tape, and on the M words after them another, which those first words decide. Where that
-- other one is given for tapes only, `cleaned` makes a tape of any list. Rests on Cells for words of a tape's rest.
use mathlib.Core.Path.{◌≡◌, refl, ap, ap₂, ◌∙◌}
use mathlib.Core.List.{List, [], ◌∷◌, ◌++◌}
use Prim.Native.Nat.{ℕ, zero, suc, ◌+◌, ◌%◌, ◌^◌}
use native.Mathlib.Omega.{arith}
use native.Mathlib.Nat.{mod-eq_of_lt}
use lib.ListN.{length, get_or, take, drop, length-append, length-take, length-drop, take-append-drop}
use lib.Seq.{take_at, drop_at}
use Rattle.masking.specs.Machine.{Words}
use Rattle.masking.specs.Secrecy.{Tape, Pairing}
use Rattle.masking.proofs.joined.Cells.{drop_words}

-- ---- a tape of length L out of any list: its words modulo 2^64, zeros past its end; a tape is left as it is
pub cleaned : ℕ → List ℕ → List ℕ
cleaned zero t = []
cleaned (suc L) t = get_or t 0 0 % 2 ^ 64 ∷ cleaned L (drop 1 t)

cleaned_length : (L : ℕ) (t : List ℕ) → length (cleaned L t) ≡ L
unfolding cleaned
cleaned_length zero t = refl
cleaned_length (suc L) t = ap suc (cleaned_length L (drop 1 t))

cleaned_words : (L : ℕ) (t : List ℕ) → Words (cleaned L t)
unfolding cleaned
cleaned_words zero t k = omega arith
cleaned_words (suc L) t zero = omega arith
cleaned_words (suc L) t (suc k) = cleaned_words L (drop 1 t) k

pub cleaned_tape : (L : ℕ) (t : List ℕ) → Tape L (cleaned L t)
cleaned_tape L t = record { size = cleaned_length L t; words = cleaned_words L t }

pub cleaned_same : (L : ℕ) (t : List ℕ) → Tape L t → cleaned L t ≡ t
unfolding cleaned
cleaned_same zero [] h = refl
cleaned_same zero (x ∷ t) h = absurd (omega arith)
cleaned_same (suc L) [] h = absurd (omega arith)
cleaned_same (suc L) (x ∷ t) h =
    ap₂ (λ (y : ℕ) (r : List ℕ). y ∷ r) (mod-eq_of_lt (h.words 0)) (cleaned_same L t (record { size = omega arith; words = λ k. h.words (suc k) }))

-- ---- words of parts
take_words : (k : ℕ) (t : List ℕ) → Words t → Words (take k t)
take_words zero t h j = omega arith
take_words (suc k) [] h j = h j
take_words (suc k) (x ∷ t) h zero = h 0
take_words (suc k) (x ∷ t) h (suc j) = take_words k t (λ i. h (suc i)) j

append_words : (a b : List ℕ) → Words a → Words b → Words (a ++ b)
append_words [] b h g k = g k
append_words (x ∷ a) b h g zero = h 0
append_words (x ∷ a) b h g (suc k) = append_words a b (λ i. h (suc i)) g k

-- ---- the two parts of a tape
module _ (L M : ℕ) where
  pub first_tape : (tape : List ℕ) → Tape (L + M) tape → Tape L (take L tape)
  first_tape tape h = record { size = length-take L tape ∙ omega (arith, h.size); words = take_words L tape h.words }

  pub rest_tape : (tape : List ℕ) → Tape (L + M) tape → Tape M (drop L tape)
  rest_tape tape h = record { size = length-drop L tape ∙ omega (arith, h.size); words = drop_words tape h.words L }

  both_tape : (a b : List ℕ) → Tape L a → Tape M b → Tape (L + M) (a ++ b)
  both_tape a b h g = record { size = length-append a b ∙ omega (arith, h.size, g.size); words = append_words a b h.words g.words }

-- each tape is its own partner
abbrev pub same : (L : ℕ) → Pairing L
same L =
    record {
      there = λ t. t;
      back = λ t. t;
      there_tape = λ t h. h;
      back_tape = λ t h. h;
      back_there = λ t h. refl;
      there_back = λ t h. refl;
    }

module _ (L M : ℕ) (p : Pairing L) (q : List ℕ → Pairing M) where
  to : List ℕ → List ℕ
  to t = p.there (take L t) ++ (q (take L t)).there (drop L t)

  -- the first part comes back first, and says by which pairing the rest does
  from : List ℕ → List ℕ
  from t =
      let a = p.back (take L t) in
      a ++ (q a).back (drop L t)

  to_first : (tape : List ℕ) → Tape (L + M) tape → take L (to tape) ≡ p.there (take L tape)
  unfolding to
  to_first tape h = take_at (p.there (take L tape)) _ L (p.there_tape (take L tape) (first_tape L M tape h)).size

  to_rest : (tape : List ℕ) → Tape (L + M) tape → drop L (to tape) ≡ (q (take L tape)).there (drop L tape)
  unfolding to
  to_rest tape h = drop_at (p.there (take L tape)) _ L (p.there_tape (take L tape) (first_tape L M tape h)).size

  from_first : (tape : List ℕ) → Tape (L + M) tape → take L (from tape) ≡ p.back (take L tape)
  unfolding from
  from_first tape h = take_at (p.back (take L tape)) _ L (p.back_tape (take L tape) (first_tape L M tape h)).size

  from_rest : (tape : List ℕ) → Tape (L + M) tape → drop L (from tape) ≡ (q (p.back (take L tape))).back (drop L tape)
  unfolding from
  from_rest tape h = drop_at (p.back (take L tape)) _ L (p.back_tape (take L tape) (first_tape L M tape h)).size

  from_to : (tape : List ℕ) → Tape (L + M) tape → from (to tape) ≡ tape
  unfolding from
  from_to tape h =
      let a = p.back_there (take L tape) (first_tape L M tape h) in
      let b = (q (take L tape)).back_there (drop L tape) (rest_tape L M tape h) in
      rw (to_first tape h, to_rest tape h, a, b) (take-append-drop L tape)

  to_from : (tape : List ℕ) → Tape (L + M) tape → to (from tape) ≡ tape
  unfolding to
  to_from tape h =
      let a = p.there_back (take L tape) (first_tape L M tape h) in
      let b = (q (p.back (take L tape))).there_back (drop L tape) (rest_tape L M tape h) in
      rw (from_first tape h, from_rest tape h, a, b) (take-append-drop L tape)

  pub in_turn : Pairing (L + M)
  unfolding to from
  in_turn =
      record {
        there = to;
        back = from;
        there_tape = λ t h.
            both_tape L M (p.there (take L t)) ((q (take L t)).there (drop L t)) (p.there_tape (take L t) (first_tape L M t h))
            ((q (take L t)).there_tape (drop L t) (rest_tape L M t h));
        back_tape = λ t h.
            both_tape L M (p.back (take L t)) ((q (p.back (take L t))).back (drop L t)) (p.back_tape (take L t) (first_tape L M t h))
            ((q (p.back (take L t))).back_tape (drop L t) (rest_tape L M t h));
        back_there = from_to;
        there_back = to_from;
      }

  pub there_first : (tape : List ℕ) → Tape (L + M) tape → take L (in_turn.there tape) ≡ p.there (take L tape)
  unfolding in_turn
  there_first = to_first

  pub there_rest : (tape : List ℕ) → Tape (L + M) tape → drop L (in_turn.there tape) ≡ (q (take L tape)).there (drop L tape)
  unfolding in_turn
  there_rest = to_rest
