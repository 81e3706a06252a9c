-- One turn of the loop over shares. Rests on masking's Rising.
use mathlib.Core.Path.{◌≡◌, sym, ap, ◌∙◌}
use mathlib.Core.List.{List}
use Prim.Native.Nat.{ℕ, ◌+◌, ◌-◌, ◌≤◌, ◌<◌}
use Rattle.masking.specs.Translation.{shares, up_from}
use Rattle.masking.proofs.emitted.Rising.{rising, risen, from_first}
use Rattle.compiled.specs.inner.OnShare.{on_share_all, share_by_share}

module _ (ws : List ℕ) (n : ℕ) where
  pub begin : (c : List ℕ) → share_by_share (shares n) ws c ≡ share_by_share (up_from 0 (n - 0)) ws c
  begin c = ap (λ (is : List ℕ). share_by_share is ws c) (from_first n)

  pub turn : (i : ℕ) → i < n → (c₀ c : List ℕ) {c' : List ℕ} → share_by_share (shares n) ws c₀ ≡ share_by_share (up_from i (n - i)) ws c
      → c' ≡ on_share_all i ws c → share_by_share (shares n) ws c₀ ≡ share_by_share (up_from (i + 1) (n - (i + 1))) ws c'
  turn i h c₀ c {c'} l e =
      l ∙ ap (λ (is : List ℕ). share_by_share is ws c) (rising i n h) ∙ ap (share_by_share (up_from (i + 1) (n - (i + 1))) ws) (sym e)

  pub end : (i : ℕ) → n ≤ i → (c₀ c : List ℕ) → share_by_share (shares n) ws c₀ ≡ share_by_share (up_from i (n - i)) ws c → c ≡ share_by_share (shares n) ws c₀
  end i h c₀ c l = sym (l ∙ ap (λ (is : List ℕ). share_by_share is ws c) (risen i n h))
