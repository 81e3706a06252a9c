-- Zeros put into cells: what CONST 0 into them does, whatever the order; and AND's scratch cells, share by share. Rests on masking's Rising.
use mathlib.Core.Path.{◌≡◌, refl, sym, ap, ◌∙◌}
use mathlib.Core.List.{List, [], ◌∷◌, ◌++◌, append_assoc, map}
use Prim.Native.Nat.{ℕ, ◌+◌, ◌-◌, ◌≤◌, ◌<◌}
use native.Mathlib.Decide.{ℕ_discrete}
use lib.ListN.{set}
use lib.Seq.{set_comm}
use Rattle.word.specs.Layout.{cell_y, cell_z, cell_t, cell_u}
use Rattle.masking.specs.Translation.{up_from, scratch, scratch_cells, shares, wiping}
use Rattle.masking.specs.Machine.{exec_step, exec_steps}
use Rattle.masking.proofs.emitted.Rising.{rising, risen, from_first}
use Rattle.and_parts.specs.inner.Effects.{Alike}

abbrev pub zeroed : List ℕ → List ℕ → List ℕ
zeroed [] c = c
zeroed (k ∷ ks) c = zeroed ks (set c k 0)

pub wiping_zeroed : (ks tape c : List ℕ) → exec_steps (wiping ks) tape c ≡ zeroed ks c
unfolding exec_step
wiping_zeroed [] tape c = refl
wiping_zeroed (k ∷ ks) tape c = wiping_zeroed ks tape (set c k 0)

-- two zeros in either order
swap : (c : List ℕ) (j k : ℕ) → set (set c j 0) k 0 ≡ set (set c k 0) j 0
swap c j k = by (ℕ_discrete j k)
  where
    by : Dec (j ≡ k) → set (set c j 0) k 0 ≡ set (set c k 0) j 0
    by (yes e) = rw e refl
    by (no e) = set_comm c j k 0 0 e

-- one of the cells may come first
sooner : (js : List ℕ) (k : ℕ) (ks c : List ℕ) → zeroed (js ++ (k ∷ ks)) c ≡ zeroed (js ++ ks) (set c k 0)
sooner [] k ks c = refl
sooner (j ∷ js) k ks c = sooner js k ks (set c j 0) ∙ ap (zeroed (js ++ ks)) (swap c j k)

-- cells that are alike are the same once t and u are zero
zero_alike : {c c' : List ℕ} (j : ℕ) → Alike c c' → Alike (set c j 0) (set c' j 0)
zero_alike {c} {c'} j a = record { same = out c ∙ ap (λ (l : List ℕ). set l j 0) a.same ∙ sym (out c') }
  where
    out : (l : List ℕ) → set (set (set l j 0) 272 0) 273 0 ≡ set (set (set l 272 0) 273 0) j 0
    out l = ap (λ (k : List ℕ). set k 273 0) (swap l j 272) ∙ swap (set l 272 0) j 273

alike_zeroed : {c c' : List ℕ} (js : List ℕ) → Alike c c' → zeroed (js ++ (272 ∷ 273 ∷ [])) c ≡ zeroed (js ++ (272 ∷ 273 ∷ [])) c'
alike_zeroed [] a = a.same
alike_zeroed (j ∷ js) a = alike_zeroed js (zero_alike j a)

pub alike_wiped : {c c' : List ℕ} (n : ℕ) → Alike c c' → zeroed (scratch_cells scratch n) c ≡ zeroed (scratch_cells scratch n) c'
alike_wiped {c} {c'} n a =
    let ys = map cell_y (shares n) in
    let zs = map cell_z (shares n) in
    let e = append_assoc ys zs (272 ∷ 273 ∷ []) in
    ap (λ (ks : List ℕ). zeroed ks c) (sym e) ∙ alike_zeroed (ys ++ zs) a ∙ ap (λ (ks : List ℕ). zeroed ks c') e

-- AND's scratch cells of some shares, and those from share i on
abbrev over : List ℕ → List ℕ
over is = map cell_y is ++ (map cell_z is ++ (cell_t ∷ cell_u ∷ []))

module _ (n : ℕ) where
  abbrev pub from : ℕ → List ℕ
  from i = over (up_from i (n - i))

  pub from_start : (c : List ℕ) → zeroed (scratch_cells scratch n) c ≡ zeroed (from 0) c
  from_start c = ap (λ (is : List ℕ). zeroed (over is) c) (from_first n)

  -- share i's two, and then the rest
  pub from_turn : (i : ℕ) → i < n → (c : List ℕ) → zeroed (from i) c ≡ zeroed (from (i + 1)) (set (set c (256 + i) 0) (264 + i) 0)
  from_turn i h c =
      let rest = up_from (i + 1) (n - (i + 1)) in
      ap (λ (is : List ℕ). zeroed (over is) c) (rising i n h)
      ∙ sooner (map cell_y rest) (264 + i) (map cell_z rest ++ (cell_t ∷ cell_u ∷ [])) (set c (256 + i) 0)

  pub from_end : (i : ℕ) → n ≤ i → (c : List ℕ) → zeroed (from i) c ≡ set (set c 272 0) 273 0
  from_end i h c = ap (λ (is : List ℕ). zeroed (over is) c) (risen i n h)
