-- A turn of the loops by which a share of y is put behind its fresh words, and the words that are left. Assumes nothing.
use mathlib.Core.Path.{◌≡◌, refl, sym, ap, ap₂, ◌∙◌}
use mathlib.Core.List.{List}
use Prim.Native.Nat.{ℕ, zero, suc, ◌+◌, ◌-◌, ◌≤◌, ◌<◌}
use native.Mathlib.Omega.{arith}
use lib.ListN.{get_or, drop}
use lib.Seq.{get_or-drop, get_or-take}
use Rattle.std.specs.List.{slice_range}
use Rattle.bits.specs.Ops.{xor_w}
use Rattle.and_parts.specs.inner.Effects.{behind, behind_row, row_words}

less_one : (m : ℕ) → m ≡ suc m - 1
less_one m = omega arith

pub words_turn : (m : ℕ) → 0 < m → row_words m ≡ m + row_words (m - 1)
words_turn zero h = absurd (omega arith)
words_turn (suc m) h = ap (λ (k : ℕ). suc m + row_words k) (less_one m)

pub row_fits : (m : ℕ) → m ≤ row_words m
row_fits zero = omega arith
row_fits (suc m) = omega arith

module _ (tape : List ℕ) where
  row_turn : (m p y : ℕ) → 0 < m → behind_row tape m p y ≡ behind_row tape (m - 1) (p + 1) (xor_w y (get_or tape p 0))
  row_turn zero p y h = absurd (omega arith)
  row_turn (suc m) p y h = ap (λ (k : ℕ). behind_row tape k (p + 1) (xor_w y (get_or tape p 0))) (less_one m)

  pub behind_turn : (c m p y : ℕ) → 0 < c → behind tape c m p y ≡ behind tape (c - 1) (m - 1) (p + m) (xor_w y (get_or tape (p + (c - 1)) 0))
  behind_turn zero m p y h = absurd (omega arith)
  behind_turn (suc c) m p y h = ap (λ (k : ℕ). behind tape k (m - 1) (p + m) (xor_w y (get_or tape (p + k) 0))) (less_one c)

  -- none below, and the end of the row
  pub row_left : (c m p y : ℕ) → c ≤ 0 → behind tape c m p y ≡ behind_row tape m p y
  row_left zero m p y h = refl
  row_left (suc c) m p y h = absurd (omega arith)

  row_done : (m p y : ℕ) → m ≤ 0 → behind_row tape m p y ≡ y
  row_done zero p y h = refl
  row_done (suc m) p y h = absurd (omega arith)

  -- the words of a row of m from place p on, as a part of the tape: the one at i, and the end
  pub item_turn : (m p y i : ℕ) → i < m → behind_row tape (m - i) (p + i) y ≡ behind_row tape (m - (i + 1)) (p + (i + 1)) (xor_w y (get_or (slice_range tape p (p + m)) i 0))
  item_turn m p y i h =
      let left : m - i - 1 ≡ m - (i + 1) = omega arith in
      let next : p + i + 1 ≡ p + (i + 1) = omega arith in
      let most : i < p + m - p = omega arith in
      let item : get_or (slice_range tape p (p + m)) i 0 ≡ get_or tape (p + i) 0 = get_or-take (p + m - p) (drop p tape) i 0 most ∙ get_or-drop p tape i 0 in
      row_turn (m - i) (p + i) y (omega arith)
      ∙ ap₂ (λ (k l : ℕ). behind_row tape k l (xor_w y (get_or tape (p + i) 0))) left next
      ∙ ap (λ (v : ℕ). behind_row tape (m - (i + 1)) (p + (i + 1)) (xor_w y v)) (sym item)

  pub items_done : (m p y i : ℕ) → m ≤ i → behind_row tape (m - i) (p + i) y ≡ y
  items_done m p y i h = row_done (m - i) (p + i) y (omega arith)
