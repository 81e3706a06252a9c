-- What AND does for a pair of shares, and its pairs one by one. Rests on masking's Rising.
use mathlib.Core.Path.{◌≡◌, sym, ap, ap₂, ◌∙◌}
use mathlib.Core.Logic.{◌≢◌}
use mathlib.Core.List.{List, [], ◌∷◌, ◌++◌, append_assoc}
use Prim.Native.Nat.{ℕ, ◌+◌, ◌-◌, ◌≤◌, ◌<◌}
use native.Mathlib.Nat.{add-zero}
use native.Mathlib.Omega.{arith}
use lib.ListN.{length, get_or, set, drop, length-set}
use lib.Seq.{get_or-set_same, get_or-set_other, get_or-drop}
use Rattle.bits.specs.Ops.{xor_w, and_w}
use Rattle.word.specs.declared.step.Step.{Step}
use Rattle.word.specs.declared.step.Step.TheVariants.{Xor, And, Rand}
use Rattle.masking.specs.Translation.{Pair, up_from, pairs_of, pairs, refresh, scratch, products}
use Rattle.masking.specs.Machine.{exec_step, exec_steps}
use Rattle.and_parts.specs.inner.Effects.{Ran, refreshed, crossed_pair}
use Rattle.masking.proofs.emitted.Rising.{rising, risen}

-- ---- steps for each pair, pair by pair
abbrev pub pair : ℕ → ℕ → Pair
pair i j = record { lo = i; hi = j }

module _ (f : List Pair → List Step) (none : f [] ≡ []) (first : (p : Pair) (ps : List Pair) → f (p ∷ ps) ≡ f (p ∷ []) ++ f ps) where
  pair_append : (ps qs : List Pair) → f (ps ++ qs) ≡ f ps ++ f qs
  pair_append [] qs = ap (λ (r : List Step). r ++ f qs) (sym none)
  pair_append (p ∷ ps) qs =
      first p (ps ++ qs) ∙ ap (λ (r : List Step). f (p ∷ []) ++ r) (pair_append ps qs)
      ∙ sym (append_assoc (f (p ∷ [])) (f ps) (f qs))
      ∙ ap (λ (r : List Step). r ++ f qs) (sym (first p ps))

  -- the pairs of share i, from share j on
  pub in_row_is : (i j n : ℕ) → j < n → f (pairs_of i (up_from j (n - j))) ≡ f (pair i j ∷ []) ++ f (pairs_of i (up_from (j + 1) (n - (j + 1))))
  in_row_is i j n h = ap (λ (js : List ℕ). f (pairs_of i js)) (rising j n h) ∙ first (pair i j) (pairs_of i (up_from (j + 1) (n - (j + 1))))

  pub row_end : (i j n : ℕ) → n ≤ j → f (pairs_of i (up_from j (n - j))) ≡ []
  row_end i j n h = ap (λ (js : List ℕ). f (pairs_of i js)) (risen j n h) ∙ none

  -- the pairs of the shares from i on
  pub in_rows : (i n : ℕ) → i < n → f (pairs (up_from i (n - i))) ≡ f (pairs_of i (up_from (i + 1) (n - (i + 1)))) ++ f (pairs (up_from (i + 1) (n - (i + 1))))
  in_rows i n h =
      ap (λ (is : List ℕ). f (pairs is)) (rising i n h)
      ∙ pair_append (pairs_of i (up_from (i + 1) (n - (i + 1)))) (pairs (up_from (i + 1) (n - (i + 1))))

-- ---- one pair
next_word : (tape : List ℕ) (t : ℕ) → get_or (drop t tape) 0 0 ≡ get_or tape t 0
next_word tape t = get_or-drop t tape 0 0 ∙ ap (λ (k : ℕ). get_or tape k 0) (add-zero t)

-- a cell after a store to another
past : (l : List ℕ) (i j v : ℕ) → j ≢ i → get_or (set l i v) j 0 ≡ get_or l j 0
past l i j v h = get_or-set_other l i j v 0 h

-- steps whose operands are known
xor_step : (l tape : List ℕ) (d a b x y : ℕ) → get_or l a 0 ≡ x → get_or l b 0 ≡ y → exec_step (Xor d a b) tape l ≡ set l d (xor_w x y)
unfolding exec_step
xor_step l tape d a b x y p q = ap₂ (λ (v w : ℕ). set l d (xor_w v w)) p q

and_step : (l tape : List ℕ) (d a b x y : ℕ) → get_or l a 0 ≡ x → get_or l b 0 ≡ y → exec_step (And d a b) tape l ≡ set l d (and_w x y)
unfolding exec_step
and_step l tape d a b x y p q = ap₂ (λ (v w : ℕ). set l d (and_w v w)) p q

rand_step : (l tape : List ℕ) (t d : ℕ) → exec_step (Rand d) (drop t tape) l ≡ set l d (get_or tape t 0)
unfolding exec_step
rand_step l tape t d = ap (set l d) (next_word tape t)

module _ (i j : ℕ) (ij : i < j) (j8 : j < 8) (c tape : List ℕ) (t : ℕ) (size : length c ≡ 512) where
  abbrev r : ℕ
  r = get_or tape t 0

  abbrev k₁ : List ℕ
  k₁ = set c 272 r

  at_t : get_or k₁ 272 0 ≡ r
  at_t = get_or-set_same c 272 r 0 (omega arith)

  pub refresh_pair : Ran (refresh scratch (pair i j ∷ [])) tape t c (refreshed i j r c) (t + 1)
  refresh_pair =
      let y = xor_w (get_or c (256 + i) 0) r in
      record {
        cells = sym (
            ap (λ (k : List ℕ). exec_steps (Xor (256 + i) (256 + i) 272 ∷ Xor (256 + j) (256 + j) 272 ∷ []) (drop 1 (drop t tape)) k) (rand_step c tape t 272)
            ∙ ap (λ (k : List ℕ). exec_steps (Xor (256 + j) (256 + j) 272 ∷ []) (drop 1 (drop t tape)) k)
            (xor_step k₁ (drop 1 (drop t tape)) (256 + i) (256 + i) 272 (get_or c (256 + i) 0) r (past c 272 (256 + i) r (λ e. omega arith)) at_t)
            ∙ xor_step (set k₁ (256 + i) y) (drop 1 (drop t tape)) (256 + j) (256 + j) 272 (get_or c (256 + j) 0) r
            (past k₁ (256 + i) (256 + j) y (λ e. omega arith) ∙ past c 272 (256 + j) r (λ e. omega arith)) (past k₁ (256 + i) 272 y (λ e. omega arith) ∙ at_t)
            );
        place = omega arith;
      }

  module _ (a : ℕ → ℕ) (away : (k : ℕ) → 256 ≤ k → k < 288 → a i ≡ k → ⊥) (away' : (k : ℕ) → 256 ≤ k → k < 288 → a j ≡ k → ⊥) where
    abbrev x : ℕ
    x = xor_w (get_or c (264 + i) 0) r

    abbrev u : ℕ
    u = and_w (get_or c (a i) 0) (get_or c (256 + j) 0)

    abbrev s : ℕ
    s = xor_w r u

    abbrev v : ℕ
    v = and_w (get_or c (a j) 0) (get_or c (256 + i) 0)

    abbrev w : ℕ
    w = xor_w s v

    abbrev k₂ : List ℕ
    k₂ = set k₁ (264 + i) x

    abbrev k₃ : List ℕ
    k₃ = set k₂ 273 u

    abbrev k₄ : List ℕ
    k₄ = set k₃ 272 s

    abbrev k₅ : List ℕ
    k₅ = set k₄ 273 v

    abbrev k₆ : List ℕ
    k₆ = set k₅ 272 w

    -- a cell that is none of those written
    kept₂ : (k : ℕ) → k ≢ 272 → k ≢ 264 + i → get_or k₂ k 0 ≡ get_or c k 0
    kept₂ k f g = past k₁ (264 + i) k x g ∙ past c 272 k r f

    kept₄ : (k : ℕ) → k ≢ 272 → k ≢ 264 + i → k ≢ 273 → get_or k₄ k 0 ≡ get_or c k 0
    kept₄ k f g h = past k₃ 272 k s f ∙ past k₂ 273 k u h ∙ kept₂ k f g

    at_t₃ : get_or k₃ 272 0 ≡ r
    at_t₃ = past k₂ 273 272 u (λ e. omega arith) ∙ past k₁ (264 + i) 272 x (λ e. omega arith) ∙ at_t

    at_u₃ : get_or k₃ 273 0 ≡ u
    at_u₃ = get_or-set_same k₂ 273 u 0 (omega (arith, length-set k₁ (264 + i) x, length-set c 272 r))

    size₃ : length k₃ ≡ 512
    size₃ = length-set k₂ 273 u ∙ length-set k₁ (264 + i) x ∙ length-set c 272 r ∙ size

    at_t₅ : get_or k₅ 272 0 ≡ s
    at_t₅ = past k₄ 273 272 v (λ e. omega arith) ∙ get_or-set_same k₃ 272 s 0 (omega (arith, size₃))

    at_u₅ : get_or k₅ 273 0 ≡ v
    at_u₅ = get_or-set_same k₄ 273 v 0 (omega (arith, length-set k₃ 272 s, size₃))

    at_t₆ : get_or k₆ 272 0 ≡ w
    at_t₆ = get_or-set_same k₅ 272 w 0 (omega (arith, length-set k₄ 273 v, length-set k₃ 272 s, size₃))

    kept₆ : get_or k₆ (264 + j) 0 ≡ get_or c (264 + j) 0
    kept₆ = past k₅ 272 (264 + j) w (λ e. omega arith) ∙ past k₄ 273 (264 + j) v (λ e. omega arith) ∙ kept₄ (264 + j) (λ e. omega arith) (λ e. omega arith) (λ e. omega arith)

    cross_cells : exec_steps (products scratch a (pair i j ∷ [])) (drop t tape) c ≡ crossed_pair (a i) (a j) i j r c
    cross_cells =
        let rest = drop 1 (drop t tape) in
        ap (exec_steps (Xor (264 + i) (264 + i) 272 ∷ And 273 (a i) (256 + j) ∷ Xor 272 272 273 ∷ And 273 (a j) (256 + i) ∷ Xor 272 272 273 ∷ Xor (264 + j) (264 + j) 272 ∷ []) rest)
        (rand_step c tape t 272)
        ∙ ap (exec_steps (And 273 (a i) (256 + j) ∷ Xor 272 272 273 ∷ And 273 (a j) (256 + i) ∷ Xor 272 272 273 ∷ Xor (264 + j) (264 + j) 272 ∷ []) rest)
        (xor_step k₁ rest (264 + i) (264 + i) 272 (get_or c (264 + i) 0) r (past c 272 (264 + i) r (λ e. omega arith)) at_t)
        ∙ ap (exec_steps (Xor 272 272 273 ∷ And 273 (a j) (256 + i) ∷ Xor 272 272 273 ∷ Xor (264 + j) (264 + j) 272 ∷ []) rest)
        (and_step k₂ rest 273 (a i) (256 + j) (get_or c (a i) 0) (get_or c (256 + j) 0)
        (kept₂ (a i) (away 272 (omega arith) (omega arith)) (away (264 + i) (omega arith) (omega arith))) (kept₂ (256 + j) (λ e. omega arith) (λ e. omega arith)))
        ∙ ap (exec_steps (And 273 (a j) (256 + i) ∷ Xor 272 272 273 ∷ Xor (264 + j) (264 + j) 272 ∷ []) rest)
        (xor_step k₃ rest 272 272 273 r u at_t₃ at_u₃)
        ∙ ap (exec_steps (Xor 272 272 273 ∷ Xor (264 + j) (264 + j) 272 ∷ []) rest)
        (and_step k₄ rest 273 (a j) (256 + i) (get_or c (a j) 0) (get_or c (256 + i) 0)
        (kept₄ (a j) (away' 272 (omega arith) (omega arith)) (away' (264 + i) (omega arith) (omega arith)) (away' 273 (omega arith) (omega arith)))
        (kept₄ (256 + i) (λ e. omega arith) (λ e. omega arith) (λ e. omega arith)))
        ∙ ap (exec_steps (Xor (264 + j) (264 + j) 272 ∷ []) rest) (xor_step k₅ rest 272 272 273 s v at_t₅ at_u₅)
        ∙ xor_step k₆ rest (264 + j) (264 + j) 272 (get_or c (264 + j) 0) w kept₆ at_t₆

    pub cross_pair : Ran (products scratch a (pair i j ∷ [])) tape t c (crossed_pair (a i) (a j) i j r c) (t + 1)
    cross_pair = record { cells = sym cross_cells; place = omega arith }
