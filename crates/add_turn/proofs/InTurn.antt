-- ADD's G = G XOR T and T = P SHL k share by share, from the last to the first: both steps of a share may be done before those of the
-- others, since no cell of one share is one of another. Rests on masking's Places for the cells and on and_parts' Turn for their tape words.
use mathlib.Core.Path.{◌≡◌, refl, sym, ap, ◌∙◌}
use mathlib.Core.List.{List, [], ◌∷◌, ◌++◌, map}
use mathlib.Core.Logic.{◌≢◌}
use Prim.Native.Nat.{ℕ, zero, suc, ◌+◌, ◌-◌, ◌*◌, ◌/◌, ◌≤◌, ◌<◌}
use native.Mathlib.Omega.{arith}
use lib.ListN.{get_or, set}
use lib.Seq.{get_or-set_other, set_comm}
use Rattle.bits.specs.Ops.{xor_w, shl_w}
use Rattle.word.specs.declared.step.Step.{Step}
use Rattle.word.specs.declared.step.Step.TheVariants.{Xor, Shl}
use Rattle.masking.specs.Translation.{blocks, cells_of, r_g, r_p, r_t, scratch, share_cell, shares, share_step, up_from}
use Rattle.masking.specs.Machine.{exec_step, exec_steps}
use Rattle.masking.proofs.emitted.Counts.{rands_append}
use Rattle.masking.proofs.emitted.Places.{share_helper}
use Rattle.and_parts.specs.declared.once.Op.TheVariants as op
use Rattle.and_parts.specs.inner.Effects.{Ran, Still}
use Rattle.and_parts.proofs.Running.{still_ran}
use Rattle.and_parts.proofs.Turn.{once_rands}

-- helpers (registers 32 to 39, said so that `simp` computes it) of two shares are different cells
apart : (i j r s : ℕ) → i ≢ j → r / 8 ≡ 4 → s / 8 ≡ 4 → share_cell i r ≢ share_cell j s
apart i j r s h lr ls e = h (omega (arith, share_helper i r (omega arith), share_helper j s (omega arith)))

module _ (k : ℕ) where
  abbrev mix : ℕ → Step
  mix = share_step (Xor r_g r_g r_t)

  abbrev shift : ℕ → Step
  shift = share_step (Shl r_t r_p k)

  -- the steps of some shares: first one of each, then the other
  abbrev steps : List ℕ → List Step
  steps is = map mix is ++ (map shift is ++ [])

  -- the cells after one share's XOR, and after both its steps: its helpers are the four cells from q on
  abbrev mixed : ℕ → List ℕ → List ℕ
  mixed q c = set c (q + 1) (xor_w (get_or c (q + 1) 0) (get_or c (q + 3) 0))

  abbrev turned : ℕ → List ℕ → List ℕ
  turned q c = set (mixed q c) (q + 3) (shl_w (get_or (mixed q c) (q + 2) 0) k)

  -- both steps of one share
  abbrev both : ℕ → List ℕ → List ℕ → List ℕ
  both i tape c = exec_step (shift i) tape (exec_step (mix i) tape c)

  one : (i q : ℕ) → q ≡ 288 + 8 * i → (tape c : List ℕ) → both i tape c ≡ turned q c
  unfolding exec_step
  one i q e tape c =
      let g : share_cell i r_g ≡ q + 1 = share_helper i r_g (omega arith) ∙ omega arith in
      let p : share_cell i r_p ≡ q + 2 = share_helper i r_p (omega arith) ∙ omega arith in
      let t : share_cell i r_t ≡ q + 3 = share_helper i r_t (omega arith) ∙ omega arith in
      rw (g, p, t)

  -- steps of two shares may change places
  module _ (i j : ℕ) (h : i ≢ j) (g : j ≢ i) (tape : List ℕ) where
    mix_mix : (c : List ℕ) → exec_step (mix i) tape (exec_step (mix j) tape c) ≡ exec_step (mix j) tape (exec_step (mix i) tape c)
    unfolding exec_step
    mix_mix c = simp (get_or-set_other, apart) (set_comm c (share_cell j r_g) (share_cell i r_g) _ _ (apart j i r_g r_g g refl refl))

    shift_mix : (c : List ℕ) → exec_step (shift i) tape (exec_step (mix j) tape c) ≡ exec_step (mix j) tape (exec_step (shift i) tape c)
    unfolding exec_step
    shift_mix c = simp (get_or-set_other, apart) (set_comm c (share_cell j r_g) (share_cell i r_t) _ _ (apart j i r_g r_t g refl refl))

    shift_shift : (c : List ℕ) → exec_step (shift i) tape (exec_step (shift j) tape c) ≡ exec_step (shift j) tape (exec_step (shift i) tape c)
    unfolding exec_step
    shift_shift c = simp (get_or-set_other, apart) (set_comm c (share_cell j r_t) (share_cell i r_t) _ _ (apart j i r_t r_t g refl refl))

  both_both : (i j : ℕ) → i ≢ j → (tape c : List ℕ) → both i tape (both j tape c) ≡ both j tape (both i tape c)
  both_both i j h tape c =
      let g : j ≢ i = λ e. h (sym e) in
      ap (exec_step (shift i) tape) (sym (shift_mix j i g h tape (exec_step (mix j) tape c)))
      ∙ shift_shift i j h g tape (exec_step (mix i) tape (exec_step (mix j) tape c))
      ∙ ap (λ (x : List ℕ). exec_step (shift j) tape (exec_step (shift i) tape x)) (mix_mix i j h g tape c)
      ∙ ap (exec_step (shift j) tape) (shift_mix i j h g tape (exec_step (mix i) tape c))

  -- a share's shift before the XORs of later ones
  earlier : (i s m : ℕ) → i < s → (ts : List Step) (tape c : List ℕ) → exec_steps (map mix (up_from s m) ++ (shift i ∷ ts)) tape c ≡ exec_steps (map mix (up_from s m) ++ ts) tape (exec_step (shift i) tape c)
  earlier i s zero h ts tape c = refl
  earlier i s (suc m) h ts tape c =
      earlier i (suc s) m (omega arith) ts tape (exec_step (mix s) tape c)
      ∙ ap (exec_steps (map mix (up_from (suc s) m) ++ ts) tape) (shift_mix i s (λ e. omega arith) (λ e. omega arith) tape c)

  -- both steps of the first of some shares before all others, and of the last
  first : (s m : ℕ) (tape c : List ℕ) → exec_steps (steps (up_from s (suc m))) tape c ≡ exec_steps (steps (up_from (suc s) m)) tape (both s tape c)
  first s m tape c = earlier s (suc s) m (omega arith) (map shift (up_from (suc s) m) ++ []) tape (exec_step (mix s) tape c)

  last : (s m j : ℕ) → j ≡ s + m → (tape c : List ℕ) → exec_steps (steps (up_from s (suc m))) tape c ≡ exec_steps (steps (up_from s m)) tape (both j tape c)
  last s zero j e tape c =
      let x : s ≡ j = omega arith in
      ap (λ (i : ℕ). both i tape c) x
  last s (suc m) j e tape c =
      first s (suc m) tape c
      ∙ last (suc s) m j (omega arith) tape (both s tape c)
      ∙ ap (exec_steps (steps (up_from (suc s) m)) tape) (both_both j s (λ x. omega arith) tape c)
      ∙ sym (first s m tape (both j tape c))

  -- of the steps of all shares, to do on `before`, those of the first i are left, to do on `cells`
  abbrev pub Rest : ℕ → ℕ → List ℕ → List ℕ → Type 0
  Rest n i before cells = (tape : List ℕ) → exec_steps (steps (shares n)) tape before ≡ exec_steps (steps (shares i)) tape cells

  module _ (n : ℕ) where
    pub begin : (c : List ℕ) → Rest n n c c
    begin c tape = refl

    -- share i - 1 in its turn
    pub turn : (i : ℕ) → 0 < i → (before c : List ℕ) → Rest n i before c → Rest n (i - 1) before (turned (288 + (i - 1) * 8) c)
    turn i h before c l tape =
        let x : i ≡ suc (i - 1) = omega arith in
        l tape ∙ ap (λ (m : ℕ). exec_steps (steps (shares m)) tape c) x
        ∙ last 0 (i - 1) (i - 1) (omega arith) tape c
        ∙ ap (exec_steps (steps (shares (i - 1))) tape) (one (i - 1) (288 + (i - 1) * 8) (omega arith) tape c)

    pub end : (i : ℕ) → i ≤ 0 → (before c : List ℕ) → Rest n i before c → Still (blocks scratch n (Xor r_g r_g r_t ∷ Shl r_t r_p k ∷ [])) before c
    end i h before c l tape =
        let x : i ≡ 0 = omega arith in
        sym (l tape ∙ ap (λ (m : ℕ). exec_steps (steps (shares m)) tape c) x)

    -- neither takes a tape word
    pub ran : {c c' : List ℕ} (tape : List ℕ) (t : ℕ) → Still (blocks scratch n (Xor r_g r_g r_t ∷ Shl r_t r_p k ∷ [])) c c' → Ran (blocks scratch n (Xor r_g r_g r_t ∷ Shl r_t r_p k ∷ [])) tape t c c' t
    ran tape t =
        let x = map mix (shares n) in
        let y = map shift (shares n) in
        let a = once_rands op.Xor (cells_of r_g) (cells_of r_g) (cells_of r_t) (shares n) in
        let b = once_rands (op.Shl k) (cells_of r_t) (cells_of r_p) (cells_of r_p) (shares n) in
        still_ran tape t (omega (arith, rands_append x (y ++ []), rands_append y []))
