-- The refresh of a pair, and a turn of AND's loop over the pairs of a share: what the code does, with z_i in a local, brings the row's share steps forward by a pair. Rests on
-- OnPairs, Likeness and Toward.
use mathlib.Core.Path.{◌≡◌, refl, sym, ap, ap₂, ◌∙◌}
use mathlib.Core.Logic.{◌≢◌}
use mathlib.Core.List.{List, [], ◌∷◌}
use Prim.Native.Nat.{ℕ, ◌+◌, ◌-◌, ◌<◌}
use native.Mathlib.Omega.{arith}
use lib.ListN.{length, get_or, set, length-set}
use lib.Seq.{get_or-set_same, get_or-set_other, set-set, set_comm}
use Rattle.bits.specs.Ops.{xor_w, and_w}
use Rattle.word.specs.declared.step.Step.{Step}
use Rattle.masking.specs.Translation.{pairs_of, products, refresh, scratch, up_from}
use Rattle.masking.specs.Machine.{rands_of}
use Rattle.masking.proofs.emitted.Rising.{length_from}
use Rattle.and_parts.specs.declared.once.Place.{Place}
use Rattle.and_parts.specs.inner.Effects.{Alike, Nearly, Register, at, crossed_pair, crossed_z, refreshed, refreshed_y}
use Rattle.and_parts.proofs.Likeness.{Other, itself, turned, alike_as, same_get, same_set, same_size, same_t, same_u}
use Rattle.and_parts.proofs.Toward.{Toward, renamed, part, aside}
use Rattle.and_pairs.proofs.OnPairs.{pair, in_row_is, refresh_pair, cross_pair}

-- ---- the tape words of a row
module _ (i : ℕ) where
  products_words : (a : ℕ → ℕ) (js : List ℕ) → rands_of (products scratch a (pairs_of i js)) ≡ length js
  products_words a [] = refl
  products_words a (j ∷ js) = omega (arith, products_words a js)

  pub products_row_words : (a : ℕ → ℕ) (j c : ℕ) → rands_of (products scratch a (pairs_of i (up_from j c))) ≡ c
  products_row_words a j c = products_words a (up_from j c) ∙ length_from j c

-- cells of y and z are neither t nor u
module _ (i : ℕ) (i8 : i < 8) where
  other_y : Other (256 + i)
  other_y = (λ e. omega arith, λ e. omega arith)

  other_z : Other (264 + i)
  other_z = (λ e. omega arith, λ e. omega arith)

module _ (i j : ℕ) (ij : i < j) (j8 : j < 8) (tape : List ℕ) (t : ℕ) where
  abbrev r : ℕ
  r = get_or tape t 0

  -- ---- refresh
  refresh_alike : {c c' : List ℕ} → Alike c c' → Alike (refreshed_y i j r c) (refreshed i j r c')
  refresh_alike {c} {c'} e =
      let oi = other_y i (omega arith) in
      let oj = other_y j j8 in
      same_set (same_set (same_t e r) (256 + i) oi (ap (λ (x : ℕ). xor_w x r) (same_get e (256 + i) oi))) (256 + j) oj (ap (λ (x : ℕ). xor_w x r) (same_get e (256 + j) oj))

  pub refresh_near : (c : List ℕ) → length c ≡ 512 → Nearly (refresh scratch (pair i j ∷ [])) tape t c (refreshed_y i j r c) (t + 1)
  refresh_near c size =
      record {
        cells = λ k e. alike_as (refresh_alike e) (refresh_pair i j ij j8 k tape t (sym (same_size e) ∙ size)).cells;
        place = omega arith;
      }

  -- ---- cross products
  module _ (A : Place) (R : Register A) where
    a_other : (k : ℕ) → k < 8 → Other (at A k)
    a_other k k8 = (R.away k 272 k8 (omega arith) (omega arith), R.away k 273 k8 (omega arith) (omega arith))

    cross_alike : {c c' : List ℕ} → Alike c c' → Alike (crossed_z (at A i) (at A j) i j r c) (crossed_pair (at A i) (at A j) i j r c')
    cross_alike {c} {c'} e =
        let oi = other_z i (omega arith) in
        let oj = other_z j j8 in
        let u = ap₂ and_w (same_get e (at A i) (a_other i (omega arith))) (same_get e (256 + j) (other_y j j8)) in
        let v = ap₂ and_w (same_get e (at A j) (a_other j j8)) (same_get e (256 + i) (other_y i (omega arith))) in
        let w = ap₂ (λ (x y : ℕ). xor_w (xor_w r x) y) u v in
        same_set (same_t (same_u (same_t (same_u (same_set (same_t e r) (264 + i) oi (ap (λ (x : ℕ). xor_w x r) (same_get e (264 + i) oi))) _) _) _) _) (264 + j) oj (ap₂ xor_w (same_get e (264 + j) oj) w)

    pub cross_near : (c : List ℕ) → length c ≡ 512 → Nearly (products scratch (at A) (pair i j ∷ [])) tape t c (crossed_z (at A i) (at A j) i j r c) (t + 1)
    cross_near c size =
        record {
          cells = λ k e. alike_as (cross_alike e)
              (cross_pair i j ij j8 k tape t (sym (same_size e) ∙ size) (at A) (λ m lo hi. R.away i m (omega arith) lo hi) (λ m lo hi. R.away j m j8 lo hi)).cells;
          place = omega arith;
        }

    module _ (c : List ℕ) (size : length c ≡ 512) (z : ℕ) where
      -- z_i in a local
      abbrev held_z : List ℕ
      held_z = set c (264 + i) z

      kept : (k : ℕ) → k ≢ 264 + i → get_or held_z k 0 ≡ get_or c k 0
      kept k f = get_or-set_other c (264 + i) k z 0 f

      -- what the code stores
      abbrev s : ℕ
      s = xor_w r (and_w (get_or c (at A i) 0) (get_or c (256 + j) 0))

      abbrev w : ℕ
      w = xor_w s (and_w (get_or (set c 272 s) (at A j) 0) (get_or (set c 272 s) (256 + i) 0))

      abbrev stored : List ℕ
      stored = set (set c 272 s) 272 w

      same_w : xor_w (xor_w r (and_w (get_or held_z (at A i) 0) (get_or held_z (256 + j) 0))) (and_w (get_or held_z (at A j) 0) (get_or held_z (256 + i) 0)) ≡ w
      same_w =
          let p = kept (at A i) (R.away i (264 + i) (omega arith) (omega arith) (omega arith)) in
          let x = kept (256 + j) (λ e. omega arith) in
          let o = a_other j j8 in
          let v = kept (at A j) (R.away j (264 + i) j8 (omega arith) (omega arith)) ∙ sym (get_or-set_other c 272 (at A j) s 0 o.0) in
          let y = kept (256 + i) (λ e. omega arith) ∙ sym (get_or-set_other c 272 (256 + i) s 0 (λ e. omega arith)) in
          ap₂ xor_w (ap (xor_w r) (ap₂ and_w p x)) (ap₂ and_w v y)

      same_z : xor_w (get_or held_z (264 + j) 0) w ≡ xor_w (get_or stored (264 + j) 0) w
      same_z =
          ap (λ (x : ℕ). xor_w x w)
          (kept (264 + j) (λ e. omega arith) ∙ sym (get_or-set_other (set c 272 s) 272 (264 + j) w 0 (λ e. omega arith) ∙ get_or-set_other c 272 (264 + j) s 0 (λ e. omega arith)))

      crossed_held : crossed_z (at A i) (at A j) i j r held_z ≡ set (set c (264 + i) (xor_w z r)) (264 + j) (xor_w (get_or stored (264 + j) 0) w)
      crossed_held =
          ap₂ (λ (u v : ℕ). set (set held_z (264 + i) (xor_w u r)) (264 + j) (xor_w (get_or held_z (264 + j) 0) v)) (get_or-set_same c (264 + i) z 0 (omega arith)) same_w
          ∙ ap₂ (λ (l : List ℕ) (v : ℕ). set l (264 + j) v) (set-set c (264 + i) z (xor_w z r)) same_z

      code_alike : Alike (set (set stored (264 + j) (xor_w (get_or stored (264 + j) 0) w)) (264 + i) (xor_w z r)) (crossed_z (at A i) (at A j) i j r held_z)
      code_alike =
          let x = xor_w (get_or stored (264 + j) 0) w in
          turned (alike_as (turned (alike_as
          (same_set (same_set (turned (same_t (same_t (itself c) s) w)) (264 + i) (other_z i (omega arith)) refl) (264 + j) (other_z j j8) refl)
          (sym crossed_held))) (set_comm stored (264 + i) (264 + j) (xor_w z r) x (λ e. omega arith)))

      pub cross_turn : {ss : List Step} {t₀ : ℕ} {c₀ : List ℕ} (n : ℕ) → j < n → Toward tape ss t₀ c₀ (products scratch (at A) (pairs_of i (up_from j (n - j)))) t held_z
          → Toward tape ss t₀ c₀ (products scratch (at A) (pairs_of i (up_from (j + 1) (n - (j + 1))))) (t + 1) (set (set stored (264 + j) (xor_w (get_or stored (264 + j) 0) w)) (264 + i) (xor_w z r))
      cross_turn {ss} {t₀} {c₀} n jn l =
          aside code_alike
          (part (products scratch (at A) (pair i j ∷ [])) (products scratch (at A) (pairs_of i (up_from (j + 1) (n - (j + 1)))))
          (renamed (in_row_is (products scratch (at A)) refl (λ p ps. refl) i j n jn) l) (cross_near held_z (length-set c (264 + i) z ∙ size)))
