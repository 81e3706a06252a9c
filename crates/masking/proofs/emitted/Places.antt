-- Where the shares of the registers and helpers lie: the two cases of `share_cell`.
use mathlib.Core.Path.{◌≡◌, ◌∙◌}
use mathlib.Core.Logic.{◌⊎◌, inl, inr, ⊎_elim}
use Prim.Native.Nat.{ℕ, ◌+◌, ◌-◌, ◌*◌, ◌≤◌, ◌<◌}
use native.Mathlib.Omega.{arith}
use native.Mathlib.Decide.{dec_lt}
use borrow.Author.Tests.{lt-ltb, le-ltb}
use Rattle.word.specs.Layout.{cell, helper}
use Rattle.masking.specs.Translation.{share_cell, Scratch, scratch}

-- a register's share, and a helper's
pub share_register : (i r : ℕ) → r < 32 → share_cell i r ≡ cell i r
unfolding share_cell
share_register i r h = rw (lt-ltb r 32 h)

pub share_helper : (i r : ℕ) → 32 ≤ r → share_cell i r ≡ helper i (r - 32)
unfolding share_cell
share_helper i r h = rw (le-ltb r 32 h)

-- a share's cell is one or the other
pub share_cases : (i r : ℕ) → ((r < 32) × (share_cell i r ≡ 32 * i + r)) ⊎ ((32 ≤ r) × (share_cell i r ≡ 256 + 8 * i + r))
share_cases i r = by (dec_lt r 32)
  where
    by : Dec (r < 32) → ((r < 32) × (share_cell i r ≡ 32 * i + r)) ⊎ ((32 ≤ r) × (share_cell i r ≡ 256 + 8 * i + r))
    by (yes l) = inl (l, share_register i r l)
    by (no l) = inr (omega arith, share_helper i r (omega arith) ∙ omega arith)

-- places of AND's scratch cells for n shares of w registers: they lie apart from each other and from the shares
pub record Places (n w : ℕ) (c : Scratch) : Type 0 where
  pub t_u : c.t ≡ c.u → ⊥
  pub share_t : (i r : ℕ) → i < n → r < w → share_cell i r ≡ c.t → ⊥
  pub share_u : (i r : ℕ) → i < n → r < w → share_cell i r ≡ c.u → ⊥
  pub share_y : (i r j : ℕ) → i < n → r < w → j < n → share_cell i r ≡ c.y j → ⊥
  pub share_z : (i r j : ℕ) → i < n → r < w → j < n → share_cell i r ≡ c.z j → ⊥
  pub share_share : (i r j s : ℕ) → i < n → r < w → j < n → s < w → share_cell i r ≡ share_cell j s → (i ≡ j) × (r ≡ s)
  pub y_t : (i : ℕ) → i < n → c.y i ≡ c.t → ⊥
  pub y_u : (i : ℕ) → i < n → c.y i ≡ c.u → ⊥
  pub y_z : (i j : ℕ) → i < n → j < n → c.y i ≡ c.z j → ⊥
  pub y_y : (i j : ℕ) → i < n → j < n → c.y i ≡ c.y j → i ≡ j
  pub z_t : (i : ℕ) → i < n → c.z i ≡ c.t → ⊥
  pub z_u : (i : ℕ) → i < n → c.z i ≡ c.u → ⊥
  pub z_z : (i j : ℕ) → i < n → j < n → c.z i ≡ c.z j → i ≡ j

module _ (n : ℕ) (small : n ≤ 8) where
  away : (i r x : ℕ) → i < n → r < 40 → 256 ≤ x → x < 288 → share_cell i r ≡ x → ⊥
  away i r x l lr lo hi e =
      ⊎_elim (λ (q : (r < 32) × (share_cell i r ≡ 32 * i + r)). omega arith) (λ (q : (32 ≤ r) × (share_cell i r ≡ 256 + 8 * i + r)). omega arith) (share_cases i r)

  apart : (i r j s : ℕ) → i < n → r < 40 → j < n → s < 40 → share_cell i r ≡ share_cell j s → (i ≡ j) × (r ≡ s)
  apart i r j s l lr lj ls e =
      ⊎_elim
      (λ (q : (r < 32) × (share_cell i r ≡ 32 * i + r)).
      ⊎_elim (λ (p : (s < 32) × (share_cell j s ≡ 32 * j + s)). (omega arith, omega arith))
      (λ (p : (32 ≤ s) × (share_cell j s ≡ 256 + 8 * j + s)). absurd (omega arith)) (share_cases j s))
      (λ (q : (32 ≤ r) × (share_cell i r ≡ 256 + 8 * i + r)).
      ⊎_elim (λ (p : (s < 32) × (share_cell j s ≡ 32 * j + s)). absurd (omega arith))
      (λ (p : (32 ≤ s) × (share_cell j s ≡ 256 + 8 * j + s)). (omega arith, omega arith)) (share_cases j s))
      (share_cases i r)

  -- document 01's places, for 32 registers and eight places for helpers
  pub places : Places n 40 scratch
  places =
      record {
        t_u = λ e. omega arith;
        share_t = λ i r l lr. away i r 272 l lr (omega arith) (omega arith);
        share_u = λ i r l lr. away i r 273 l lr (omega arith) (omega arith);
        share_y = λ i r j l lr lj. away i r (256 + j) l lr (omega arith) (omega arith);
        share_z = λ i r j l lr lj. away i r (264 + j) l lr (omega arith) (omega arith);
        share_share = apart;
        y_t = λ i l e. omega arith;
        y_u = λ i l e. omega arith;
        y_z = λ i j l lj e. omega arith;
        y_y = λ i j l lj e. omega arith;
        z_t = λ i l e. omega arith;
        z_u = λ i l e. omega arith;
        z_z = λ i j l lj e. omega arith;
      }
