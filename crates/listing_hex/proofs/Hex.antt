-- The lines of share words: nine bytes each, one after the other. Rests on Placed.
use mathlib.Core.Path.{◌≡◌, refl, sym, ap, ◌∙◌}
use mathlib.Core.List.{List, [], ◌∷◌, ◌++◌, append_assoc}
use Prim.Native.Nat.{ℕ, ◌+◌, ◌-◌, ◌*◌, ◌≤◌, ◌<◌}
use native.Mathlib.Numerals.{add-one}
use native.Mathlib.Omega.{arith}
use lib.ListN.{length, take, drop, get_or, length-append}
use lib.Seq.{sets, sets-eq, drop-cons}
use borrow.Rule.Slice.PartMut.{put_mid, Post-is}
use Rattle.listing_lines.specs.Lines.{hex_line, hex_lines}
use Rattle.listing_lines.proofs.Placed.{Left, renamed, part, room}

pub line_length : (w : ℕ) → length (hex_line w) ≡ 9
unfolding hex_line
line_length w = refl

pub lines_length : (ws : List ℕ) → length (hex_lines ws) ≡ 9 * length ws
lines_length [] = refl
lines_length (w ∷ ws) = omega (arith, length-append (hex_line w) (hex_lines ws), line_length w, lines_length ws)

pub lines_append : (xs ys : List ℕ) → hex_lines (xs ++ ys) ≡ hex_lines xs ++ hex_lines ys
lines_append [] ys = refl
lines_append (x ∷ xs) ys = ap (λ (l : List ℕ). hex_line x ++ l) (lines_append xs ys) ∙ sym (append_assoc (hex_line x) (hex_lines xs) (hex_lines ys))

-- the line of the i-th word, then those of the words behind it
pub lines_at : (ws : List ℕ) (i : ℕ) → i < length ws → hex_lines (drop i ws) ≡ hex_line (get_or ws i 0) ++ hex_lines (drop (i + 1) ws)
lines_at ws i h = ap hex_lines (drop-cons ws i 0 h) ∙ ap (λ (k : ℕ). hex_line (get_or ws i 0) ++ hex_lines (drop k ws)) (sym (add-one i))

-- one more line stands there
pub lines_on : (ws : List ℕ) {out₀ out : List ℕ} {at : ℕ} (i : ℕ) {out' : List ℕ} → Left (hex_lines ws) out₀ 0 (hex_lines (drop i ws)) out at → i < length ws
    → out' ≡ sets out at (hex_line (get_or ws i 0)) → Left (hex_lines ws) out₀ 0 (hex_lines (drop (i + 1) ws)) out' (at + 9)
lines_on ws {at = at} i l h e =
    part (hex_line (get_or ws i 0)) (hex_lines (drop (i + 1) ws)) (renamed (lines_at ws i h) l)
    (record { written = e; ends = ap (λ (k : ℕ). at + k) (sym (line_length (get_or ws i 0))) })

-- there is room for it
pub line_fits : (ws : List ℕ) {out₀ out : List ℕ} {at : ℕ} (i : ℕ) → Left (hex_lines ws) out₀ 0 (hex_lines (drop i ws)) out at → i < length ws
    → length (hex_lines ws) ≤ length out₀ → at + 9 ≤ length out
line_fits ws i l h r =
    omega (arith, room (hex_line (get_or ws i 0)) (hex_lines (drop (i + 1) ws)) (renamed (lines_at ws i h) l) (omega arith), line_length (get_or ws i 0))

-- a line put in its place
pub line_put : (w : ℕ) (out : List ℕ) (at : ℕ) → at + 9 ≤ length out → put_mid at (at + 9 - at) out (hex_line w) ≡ sets out at (hex_line w)
line_put w out at h =
    ap (λ (r : List ℕ). take at out ++ (hex_line w ++ r)) (Post-is at (at + 9) out (omega arith))
    ∙ ap (λ (k : ℕ). take at out ++ (hex_line w ++ drop (at + k) out)) (sym (line_length w))
    ∙ sym (sets-eq (hex_line w) out at (omega (arith, line_length w)) ∙ append_assoc (take at out) (hex_line w) (drop (at + length (hex_line w)) out))
