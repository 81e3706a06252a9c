-- A step for each share: every share's cell gets its word of the cells before, and no other cell changes. Where a share's word is
-- made of that share's cells alone, the register joins to the exclusive-or of these words: so CONST, NOT, XOR, SHL, SHR and SPREAD on
-- shares join to themselves on joined words.
use mathlib.Core.Path.{◌≡◌, refl, sym, ap, ap₂, ◌∙◌, subst}
use mathlib.Core.List.{map}
use Prim.Native.Nat.{ℕ, zero, suc, ◌+◌, ◌-◌, ◌^◌, ◌<◌, ◌≤◌}
use native.Mathlib.Omega.{arith}
use native.Mathlib.Decide.{ℕ_discrete}
use lib.Dec.{T}
use Rattle.bits.specs.Ops.{xor_w, not_w, shl_w, shr_w, spread_w}
use Rattle.bits.proofs.Xor.{xor·ring, xor_zero, not_xor}
use Rattle.bits.proofs.Shift.{shl_xor, shr_xor, spread_xor, shl_zero}
use Rattle.word.specs.declared.step.Step.{Step}
use Rattle.word.specs.declared.step.Step.TheVariants.{Const, Xor, And, Not, Shl, Shr, Spread, Add, Rand}
use Rattle.word.specs.Encoding.{within}
use Rattle.word.specs.Table.{dest, reads, becomes}
use Rattle.masking.specs.Translation.{up_from, shares, share_cell, share_step, first_other, Scratch, block}
use Rattle.masking.specs.Unsplit.{xor_over}
use Rattle.word.proofs.Ranges.{within_cells}
use Rattle.masking.proofs.emitted.Places.{Places}
use Rattle.masking.proofs.joined.Cells.{Cells, upd, upd_same, upd_other, WordCells, step_on}
use Rattle.masking.proofs.joined.After.{after, after_mono}
use Rattle.masking.proofs.joined.Sums.{sum_same, sum_lt, sum_through, sum_xor, first_word, sum_first}

-- what the steps of k shares from s on leave: their words, and all other cells as before
abbrev pub Written : (ℕ → ℕ) → (ℕ → Cells → ℕ) → ℕ → ℕ → Cells → Cells → Type 0
Written dst g s k c e =
    ((i : ℕ) → s ≤ i → i < s + k → e (dst i) ≡ g i c) × ((x : ℕ) → ((i : ℕ) → s ≤ i → i < s + k → x ≡ dst i → ⊥) → e x ≡ c x)

module _ (n : ℕ) (f : ℕ → Step) (dst : ℕ → ℕ) (g : ℕ → Cells → ℕ)
    (writes : (i t : ℕ) (c : Cells) → step_on (f i) t c ≡ upd c (dst i) (g i c))
    (inj : (i j : ℕ) → i < n → j < n → dst i ≡ dst j → i ≡ j)
    (own : (c : Cells) (i j v : ℕ) → i < n → j < n → (i ≡ j → ⊥) → g i (upd c (dst j) v) ≡ g i c) where
  each_from : (s k : ℕ) → s + k ≤ n → (c : Cells) → after (map f (up_from s k)) (Written dst g s k c) c
  each_from s zero b c = (λ i l m. absurd (omega arith), λ x o. refl)
  each_from s (suc k) b c =
      λ t l.
      subst (λ (e : Cells). after (map f (up_from (suc s) k)) (Written dst g s (suc k) c) e) (sym (writes s t c))
      (after_mono (map f (up_from (suc s) k)) (Written dst g (suc s) k c₁) (Written dst g s (suc k) c) c₁
      (λ e h. (λ i l m. by e h i l m (ℕ_discrete i s), λ x o. h.1 x (λ i l m. o i (omega arith) (omega arith)) ∙ upd_other c (dst s) (g s c) x (o s (omega arith) (omega arith))))
      (each_from (suc s) k (omega arith) c₁))
    where
      c₁ : Cells
      c₁ = upd c (dst s) (g s c)

      by : (e : Cells) → Written dst g (suc s) k c₁ e → (i : ℕ) → s ≤ i → i < s + suc k → Dec (i ≡ s) → e (dst i) ≡ g i c
      by e h i l m (yes o) =
          rw o (h.1 (dst s) (λ j lj mj q. omega (arith, inj s j (omega arith) (omega arith) q)) ∙ upd_same c (dst s) (g s c))
      by e h i l m (no o) = h.0 i (omega arith) (omega arith) ∙ own c i s (g s c) (omega arith) (omega arith) o

  pub each_after : (c : Cells) → after (map f (shares n)) (Written dst g 0 n c) c
  each_after = each_from 0 n (omega arith)

-- ---- joined words

-- register r joined
abbrev pub join_of : ℕ → Cells → ℕ → ℕ
join_of n c r = xor_over (λ i. c (share_cell i r)) (shares n)

pub join_words : (n : ℕ) (c : Cells) → WordCells c → WordCells (join_of n c)
join_words n c w r = sum_lt (λ i. c (share_cell i r)) (λ i. w (share_cell i r)) (shares n)

-- joined, only register d has changed, to v
abbrev pub Sets : ℕ → ℕ → Cells → ℕ → ℕ → Cells → Type 0
Sets n w c d v e = (r : ℕ) → r < w → join_of n e r ≡ upd (join_of n c) d v r

-- every kind but AND, ADD and RAND
abbrev pub Once : Step → Type 0
Once (Const d k) = Unit {0}
Once (Xor d a b) = Unit {0}
Once (And d a b) = ⊥
Once (Not d a) = Unit {0}
Once (Shl d a b) = Unit {0}
Once (Shr d a b) = Unit {0}
Once (Spread d a) = Unit {0}
Once (Add d a b) = ⊥
Once (Rand d) = ⊥

-- share i's step of a kind that is once per share writes share i
pub share_dest : (s : Step) → Once s → (i : ℕ) → dest (share_step s i) ≡ share_cell i (dest s)
share_dest (Const d k) o zero = refl
share_dest (Const d k) o (suc i) = refl
share_dest (Xor d a b) o i = refl
share_dest (And d a b) o i = absurd o
share_dest (Not d a) o zero = refl
share_dest (Not d a) o (suc i) = refl
share_dest (Shl d a b) o i = refl
share_dest (Shr d a b) o i = refl
share_dest (Spread d a) o i = refl
share_dest (Add d a b) o i = absurd o
share_dest (Rand d) o i = absurd o

-- share i's step of a kind that is once per share reads shares i
pub share_reads : (s : Step) → Once s → (i : ℕ) → reads (share_step s i) ≡ map (share_cell i) (reads s)
share_reads (Const d k) o zero = refl
share_reads (Const d k) o (suc i) = refl
share_reads (Xor d a b) o i = refl
share_reads (And d a b) o i = absurd o
share_reads (Not d a) o zero = refl
share_reads (Not d a) o (suc i) = refl
share_reads (Shl d a b) o i = refl
share_reads (Shr d a b) o i = refl
share_reads (Spread d a) o i = refl
share_reads (Add d a b) o i = absurd o
share_reads (Rand d) o i = absurd o

module _ (n w : ℕ) (C : Scratch) (L : Places n w C) where
  -- a word made of one share's cells stays as it is where another share's cell is written
  pub own_shares : (d : ℕ) → d < w → (g : ℕ → Cells → ℕ)
      → ((c c' : Cells) (i : ℕ) → ((r : ℕ) → r < w → c (share_cell i r) ≡ c' (share_cell i r)) → g i c ≡ g i c')
      → (c : Cells) (i j v : ℕ) → i < n → j < n → (i ≡ j → ⊥) → g i (upd c (share_cell j d) v) ≡ g i c
  own_shares d ld g reads c i j v l m ne =
      reads (upd c (share_cell j d) v) c i (λ r lr. upd_other c (share_cell j d) v (share_cell i r) (λ q. ne (L.share_share i r j d l lr m ld q).0))

  pub each_joins : (d : ℕ) → d < w → (f : ℕ → Step) (g : ℕ → Cells → ℕ)
      → ((i t : ℕ) (c : Cells) → step_on (f i) t c ≡ upd c (share_cell i d) (g i c))
      → ((c : Cells) (i j v : ℕ) → i < n → j < n → (i ≡ j → ⊥) → g i (upd c (share_cell j d) v) ≡ g i c)
      → (c : Cells) (v : ℕ) → xor_over (λ i. g i c) (shares n) ≡ v → after (map f (shares n)) (Sets n w c d v) c
  each_joins d ld f g writes own c v total =
      after_mono (map f (shares n)) (Written (λ i. share_cell i d) g 0 n c) (Sets n w c d v) c (λ e h r l. by e h r l (ℕ_discrete r d))
      (each_after n f (λ i. share_cell i d) g writes (λ i j l m q. (L.share_share i d j d l ld m ld q).0) own c)
    where
      by : (e : Cells) → Written (λ i. share_cell i d) g 0 n c e → (r : ℕ) → r < w → Dec (r ≡ d) → join_of n e r ≡ upd (join_of n c) d v r
      by e h r l (yes o) =
          rw o (sum_same n (λ i. e (share_cell i d)) (λ i. g i c) (λ i m. h.0 i (omega arith) (omega arith)) ∙ total ∙ sym (upd_same (join_of n c) d v))
      by e h r l (no o) =
          sum_same n (λ i. e (share_cell i r)) (λ i. c (share_cell i r)) (λ i m. h.1 (share_cell i r) (λ j lj mj q. o (L.share_share i r j d m l (omega arith) ld q).1))
          ∙ sym (upd_other (join_of n c) d v r o)

  -- an operation on one register that goes through XOR
  through_joins : (d a : ℕ) → d < w → a < w → (f : ℕ → Step) (op : ℕ → ℕ)
      → ((i t : ℕ) (c : Cells) → step_on (f i) t c ≡ upd c (share_cell i d) (op (c (share_cell i a))))
      → ((x y : ℕ) → op (xor_w x y) ≡ xor_w (op x) (op y)) → (c : Cells) → after (map f (shares n)) (Sets n w c d (op (join_of n c a))) c
  through_joins d a ld la f op writes through c =
      each_joins d ld f (λ i c. op (c (share_cell i a))) writes (own_shares d ld (λ i c. op (c (share_cell i a))) (λ c c' i h. ap op (h a la))) c (op (join_of n c a))
      (sum_through op through (λ i. c (share_cell i a)) (shares n))

  const_joins : (d k : ℕ) → d < w → 0 < n → (c : Cells) → after (block C n (Const d k)) (Sets n w c d k) c
  const_joins d k ld some c =
      each_joins d ld (λ i. first_other i (Const (share_cell i d) k) (Const (share_cell i d) 0)) (λ i c. first_word i k 0) writes (λ c i j v l m ne. refl) c k
      (sum_first (λ i. k) (λ i. 0) n some ∙ ap (xor_w (xor_w k 0)) (sum_through (λ x. 0) (λ a b. sym (xor_zero 0)) (λ i. 0) (shares n)) ∙ xor_zero (xor_w k 0) ∙ xor_zero k)
    where
      writes : (i t : ℕ) (c : Cells) → step_on (first_other i (Const (share_cell i d) k) (Const (share_cell i d) 0)) t c ≡ upd c (share_cell i d) (first_word i k 0)
      writes zero t c = refl
      writes (suc i) t c = refl

  not_joins : (d a : ℕ) → d < w → a < w → 0 < n → (c : Cells) → WordCells c → after (block C n (Not d a)) (Sets n w c d (not_w (join_of n c a))) c
  not_joins d a ld la some c words =
      each_joins d ld (λ i. first_other i (Not (share_cell i d) (share_cell i a)) (Shl (share_cell i d) (share_cell i a) 0))
      (λ i c. first_word i (not_w (c (share_cell i a))) (shl_w (c (share_cell i a)) 0)) writes
      (own_shares d ld (λ i c. first_word i (not_w (c (share_cell i a))) (shl_w (c (share_cell i a)) 0)) (λ c c' i h. ap (λ (x : ℕ). first_word i (not_w x) (shl_w x 0)) (h a la)))
      c (not_w (join_of n c a))
      (sum_first (λ i. not_w (c (share_cell i a))) (λ i. shl_w (c (share_cell i a)) 0) n some
      ∙ ap₂ xor_w (ap₂ xor_w (not_xor x (words (share_cell 0 a))) (shl_zero x (words (share_cell 0 a))))
      (sum_through (λ x. shl_w x 0) (λ p q. shl_xor p q 0) (λ i. c (share_cell i a)) (shares n) ∙ shl_zero (join_of n c a) (join_words n c words a))
      ∙ regroup x (2 ^ 64 - 1) (join_of n c a) ∙ sym (not_xor (join_of n c a) (join_words n c words a)))
    where
      x : ℕ
      x = c (share_cell 0 a)

      writes : (i t : ℕ) (c : Cells) → step_on (first_other i (Not (share_cell i d) (share_cell i a)) (Shl (share_cell i d) (share_cell i a) 0)) t c
          ≡ upd c (share_cell i d) (first_word i (not_w (c (share_cell i a))) (shl_w (c (share_cell i a)) 0))
      writes zero t c = refl
      writes (suc i) t c = refl

      regroup : (p q u : ℕ) → xor_w (xor_w (xor_w p q) p) u ≡ xor_w u q
      regroup p q u = simp xor·ring

  pub once_joins : (s : Step) → T (within w s) → Once s → 0 < n → (c : Cells) → WordCells c
      → after (block C n s) (Sets n w c (dest s) (becomes s (join_of n c) 0)) c
  once_joins (Const d k) h o some c words = const_joins d k (within_cells w (Const d k) h).0 some c
  once_joins (Xor d a b) h o some c words =
      let e = within_cells w (Xor d a b) h in
      each_joins d e.0 (λ i. Xor (share_cell i d) (share_cell i a) (share_cell i b)) (λ i c. xor_w (c (share_cell i a)) (c (share_cell i b))) (λ i t c. refl)
      (own_shares d e.0 (λ i c. xor_w (c (share_cell i a)) (c (share_cell i b))) (λ c c' i g. ap₂ xor_w (g a e.1.0) (g b e.1.1.0)))
      c (xor_w (join_of n c a) (join_of n c b))
      (sum_xor (λ i. c (share_cell i a)) (λ i. c (share_cell i b)) (shares n))
  once_joins (And d a b) h o some c words = absurd o
  once_joins (Not d a) h o some c words = let e = within_cells w (Not d a) h in not_joins d a e.0 e.1.0 some c words
  once_joins (Shl d a b) h o some c words =
      let e = within_cells w (Shl d a b) h in
      through_joins d a e.0 e.1.0 (λ i. Shl (share_cell i d) (share_cell i a) b) (λ x. shl_w x b) (λ i t c. refl) (λ x y. shl_xor x y b) c
  once_joins (Shr d a b) h o some c words =
      let e = within_cells w (Shr d a b) h in
      through_joins d a e.0 e.1.0 (λ i. Shr (share_cell i d) (share_cell i a) b) (λ x. shr_w x b) (λ i t c. refl) (λ x y. shr_xor x y b) c
  once_joins (Spread d a) h o some c words =
      let e = within_cells w (Spread d a) h in
      through_joins d a e.0 e.1.0 (λ i. Spread (share_cell i d) (share_cell i a)) spread_w (λ i t c. refl) spread_xor c
  once_joins (Add d a b) h o some c words = absurd o
  once_joins (Rand d) h o some c words = absurd o
