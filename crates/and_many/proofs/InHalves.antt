-- AND in its two halves, over the number of shares and the distance of an operand's shares: what each half asks follows from what AND asks, and both are AND. What is asked
-- and done for a number that is known to be another. Rests on Parts.
use mathlib.Core.Path.{◌≡◌, sym, subst}
use mathlib.Core.List.{List}
use Prim.Native.Nat.{ℕ, ◌+◌, ◌≤◌}
use lib.ListN.{length}
use Rattle.masking.specs.Translation.{pairs, shares, refresh, products, scratch}
use Rattle.and_parts.specs.declared.once.Place.{Place}
use Rattle.and_parts.specs.inner.Effects.{Enough, Nearly, Ran, Register, Wholly, at, first_half, placed, second_half}
use Rattle.and_many.specs.inner.Asked.{Asked, and_of}
use Rattle.and_many.proofs.Parts.{fresh_enough, second_enough, halves_done, two_words}

module _ {n : ℕ} {d : Place} {a b over : ℕ} {tape : List ℕ} {t : ℕ} {c : List ℕ} (h : Asked n d a b over tape t c) where
  pub first_asks : ((2 ≤ n) × (n ≤ 8) × (length c ≡ 512) × Register (placed a over) × Register (placed b over)) × Enough tape t (refresh scratch (pairs (shares n)))
  first_asks = ((h.least, h.most, h.size, h.left, h.right), fresh_enough n (at d) (at (placed a over)) (at (placed b over)) tape t h.words)

  pub second_asks : {c₁ : List ℕ} {t₁ : ℕ} → length c₁ ≡ 512 → Nearly (first_half n (at (placed a over)) (at (placed b over))) tape t c c₁ t₁
      → ((n ≤ 8) × (length c₁ ≡ 512) × Register d × Register (placed a over)) × Enough tape t₁ (products scratch (at (placed a over)) (pairs (shares n)))
  second_asks e r = ((h.most, e, h.to, h.left), second_enough n (at d) (at (placed a over)) (at (placed b over)) tape t h.words r)

  pub both_done : {c₁ c₂ : List ℕ} {t₁ t₂ : ℕ} → Nearly (first_half n (at (placed a over)) (at (placed b over))) tape t c c₁ t₁ → Wholly (second_half n (at d) (at (placed a over))) tape t₁ c₁ c₂ t₂
      → Ran (and_of n d a b over) tape t c c₂ t₂
  both_done = halves_done n (at d) (at (placed a over)) (at (placed b over)) tape t

  pub asked_for : {m : ℕ} → n ≡ m → Asked m d a b over tape t c
  asked_for e = subst (λ (k : ℕ). Asked k d a b over tape t c) e h

  pub ran_for : {m : ℕ} {c₁ : List ℕ} {t₁ : ℕ} → n ≡ m → Ran (and_of m d a b over) tape t c c₁ t₁ → Ran (and_of n d a b over) tape t c c₁ t₁
  ran_for {c₁ = c₁} {t₁ = t₁} e = subst (λ (k : ℕ). Ran (and_of k d a b over) tape t c c₁ t₁) (sym e)

-- two shares take two words
pub two_left : {d : Place} {a b over : ℕ} {tape : List ℕ} {t : ℕ} {c : List ℕ} → Asked 2 d a b over tape t c → t + 2 ≤ length tape
two_left {d} {a} {b} {over} {tape} {t} h = two_words (at d) (at (placed a over)) (at (placed b over)) tape t h.words
