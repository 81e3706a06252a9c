-- Writing in parts: of a text to write at a place, parts are written one after the other until none is left; and a text written whole at
-- the front of a slice. Rests on checks' law of stores in a row (Slices).
use mathlib.Core.Path.{◌≡◌, refl, sym, ap, ap₂, ◌∙◌}
use mathlib.Core.Bool.{Bool, true, false}
use mathlib.Core.List.{List, [], ◌∷◌, ◌++◌}
use Prim.Native.Nat.{ℕ, ◌+◌, ◌≤◌, ◌<◌}
use native.Mathlib.Nat.{zero-add}
use native.Mathlib.Numerals.{add-one}
use native.Mathlib.Omega.{arith}
use lib.Dec.{leb}
use lib.ListN.{length, take, drop, get_or, set, length-append, length-drop}
use lib.Seq.{sets, sets-eq, length-sets, drop-cons, take_at, length-take-le}
use borrow.Author.Tests.{le-leb, lt-leb, leb-true}
use Rattle.checks.specs.Answers.{kept_unless}
use Rattle.checks.proofs.Slices.{sets_append}
use Rattle.listing_lines.specs.Writing.{fitting, Wrote, Appends}

-- `text` to write at `at` of `out` has come to `rest` to write at `at'` of `out'`
pub record Left (text out : List ℕ) (at : ℕ) (rest out' : List ℕ) (at' : ℕ) : Type 0 where
  pub same : sets out at text ≡ sets out' at' rest
  pub ends : at + length text ≡ at' + length rest
  pub long : length out' ≡ length out

pub start : (text out : List ℕ) (at : ℕ) → Left text out at text out at
start text out at = record { same = refl; ends = refl; long = refl }

module _ {text out : List ℕ} {at : ℕ} {out' : List ℕ} {at' : ℕ} where
  -- what is still to write, named otherwise
  pub renamed : {rest rest' : List ℕ} → rest ≡ rest' → Left text out at rest out' at' → Left text out at rest' out' at'
  renamed e l = rw e at l

  -- a part is written
  pub part : (xs rest : List ℕ) {out'' : List ℕ} {at'' : ℕ} → Left text out at (xs ++ rest) out' at' → Appends xs out' at' out'' at''
      → Left text out at rest out'' at''
  part xs rest l e =
      record {
        same = l.same ∙ sets_append out' at' xs rest ∙ ap₂ (λ (o : List ℕ) (k : ℕ). sets o k rest) (sym e.written) (sym e.ends);
        ends = omega (arith, l.ends, e.ends, length-append xs rest);
        long = ap length e.written ∙ length-sets out' at' xs ∙ l.long;
      }

  -- there is room for it
  pub room : (xs rest : List ℕ) → Left text out at (xs ++ rest) out' at' → at + length text ≤ length out → at' + length xs ≤ length out'
  room xs rest l r = omega (arith, l.ends, l.long, length-append xs rest)

  -- nothing is left
  pub whole : Left text out at [] out' at' → Appends text out at out' at'
  whole l = record { written = sym l.same; ends = omega (arith, l.ends) }

-- one element of a list is written, the list's i-th
pub next : (l : List ℕ) {text out : List ℕ} {at : ℕ} {out' : List ℕ} {at' : ℕ} (i : ℕ) → i < length l → Left text out at (drop i l) out' at'
    → Left text out at (drop (i + 1) l) (set out' at' (get_or l i 0)) (at' + 1)
next l i h g = part (get_or l i 0 ∷ []) (drop (i + 1) l) (renamed (drop-cons l i 0 h ∙ ap (λ (k : ℕ). get_or l i 0 ∷ drop k l) (sym (add-one i))) g)
    (record { written = refl; ends = refl })

pub appends_long : {text out : List ℕ} {at : ℕ} {after : List ℕ} {next : ℕ} → Appends text out at after next → length after ≡ length out
appends_long {text} {out} {at} a = ap length a.written ∙ length-sets out at text

-- ---- a whole text at the front

module _ (text : List ℕ) where
  pub fits : {room : ℕ} → length text ≤ room → fitting text room ≡ text
  fits {room} h = ap (λ (b : Bool). kept_unless b text []) (le-leb (length text) room h)

  fits_not : {room : ℕ} → room < length text → fitting text room ≡ []
  fits_not {room} h = ap (λ (b : Bool). kept_unless b text []) (lt-leb (length text) room h)

  fitting_le : (room : ℕ) → length (fitting text room) ≤ room
  fitting_le room = by (leb (length text) room) refl
    where
      by : (b : Bool) → leb (length text) room ≡ b → length (kept_unless b text []) ≤ room
      by true e = leb-true (length text) room e
      by false e = omega arith

module _ {text out after : List ℕ} {count : ℕ} where
  pub wrote : length text ≤ length out → Appends text out 0 after count → Wrote text out after count
  wrote h a =
      let e = fits text h in
      record {
        given = a.ends ∙ zero-add (length text) ∙ ap length (sym e);
        front =
            a.written ∙ sets-eq text out 0 (omega arith) ∙ ap (λ (k : ℕ). text ++ drop k out) (zero-add (length text))
            ∙ ap (λ (t : List ℕ). t ++ drop (length t) out) (sym e);
      }

  module _ (w : Wrote text out after count) where
    -- what was written lies within the slice, which is as long as before
    pub within : count ≤ length out
    within = omega (arith, w.given, fitting_le text (length out))

    pub as_long : length after ≡ length out
    as_long =
        omega (
          arith,
          ap length w.front,
          length-append (fitting text (length out)) (drop (length (fitting text (length out))) out),
          length-drop (length (fitting text (length out))) out,
          fitting_le text (length out),
        )

    -- so its bytes can be lent on by their count
    pub counts : (count ≤ length after) × (count ≡ length (take count after))
    counts =
        let h : count ≤ length after = omega (arith, within, as_long) in
        (h, sym (length-take-le count after h))

    -- a text that fits stands there whole
    module _ (h : length text ≤ length out) where
      pub all_given : count ≡ length text
      all_given = w.given ∙ ap length (fits text h)

      pub all_front : after ≡ text ++ drop (length text) out
      all_front = w.front ∙ ap (λ (t : List ℕ). t ++ drop (length t) out) (fits text h)

      pub all_taken : take count after ≡ text
      all_taken = ap (take count) all_front ∙ take_at text (drop (length text) out) count (sym all_given)

      pub appended : Appends text out 0 after count
      appended =
          record {
            written = all_front ∙ sym (sets-eq text out 0 (omega arith) ∙ ap (λ (k : ℕ). text ++ drop k out) (zero-add (length text)));
            ends = all_given ∙ sym (zero-add (length text));
          }

-- a whole line, put together at the front of a longer one
pub line_taken : {text line after : List ℕ} {next : ℕ} → length text ≤ length line → Appends text line 0 after next → take next after ≡ text
line_taken h a = all_taken (wrote h a) h

pub wrote_none : (text out : List ℕ) → length out < length text → Wrote text out out 0
wrote_none text out h =
    let e = fits_not text h in
    record { given = ap length (sym e); front = ap (λ (t : List ℕ). t ++ drop (length t) out) (sym e) }

-- an empty text
pub wrote_empty : {text : List ℕ} (out : List ℕ) → text ≡ [] → Wrote text out out 0
wrote_empty out e = wrote (omega (arith, ap length e)) (record { written = ap (sets out 0) (sym e); ends = omega (arith, ap length e) })
