-- The cross products of every pair, row by row: what is left from share i on, and its tape words. Rests on OnPairs and Toward, and on masking's Rising and Counts.
use mathlib.Core.Path.{◌≡◌, refl, ap, ◌∙◌}
use mathlib.Core.List.{List, []}
use Prim.Native.Nat.{ℕ, ◌+◌, ◌-◌, ◌≤◌, ◌<◌}
use Rattle.word.specs.declared.step.Step.{Step}
use Rattle.masking.specs.Translation.{pairs, pairs_of, products, scratch, shares, up_from}
use Rattle.masking.specs.Machine.{rands_of}
use Rattle.masking.proofs.emitted.Counts.{rands_append}
use Rattle.masking.proofs.emitted.Rising.{from_first, risen}
use Rattle.and_parts.specs.inner.Effects.{Nearly}
use Rattle.and_pairs.proofs.OnPairs.{in_rows}
use Rattle.and_parts.proofs.Toward.{Toward, renamed, part}

module _ (a : ℕ → ℕ) (n : ℕ) where
  abbrev pub row : ℕ → List Step
  row i = products scratch a (pairs_of i (up_from (i + 1) (n - (i + 1))))

  -- from share i on
  abbrev pub rows_from : ℕ → List Step
  rows_from i = products scratch a (pairs (up_from i (n - i)))

  pub all_rows : products scratch a (pairs (shares n)) ≡ rows_from 0
  all_rows = ap (λ (is : List ℕ). products scratch a (pairs is)) (from_first n)

  pub no_rows : (i : ℕ) → n ≤ i → rows_from i ≡ []
  no_rows i h = ap (λ (is : List ℕ). products scratch a (pairs is)) (risen i n h)

  pub row_words : (i : ℕ) → i < n → rands_of (rows_from i) ≡ rands_of (row i) + rands_of (rows_from (i + 1))
  row_words i h = ap rands_of (in_rows (products scratch a) refl (λ p ps. refl) i n h) ∙ rands_append (row i) (rows_from (i + 1))

  -- a row is done
  pub next_row : {tape c₀ c c' : List ℕ} {ss : List Step} {t₀ t t' : ℕ} (i : ℕ) → i < n → Toward tape ss t₀ c₀ (rows_from i) t c → Nearly (row i) tape t c c' t' → Toward tape ss t₀ c₀ (rows_from (i + 1)) t' c'
  next_row i h l r = part (row i) (rows_from (i + 1)) (renamed (in_rows (products scratch a) refl (λ p ps. refl) i n h) l) r
