-- Two runs in step. `wp m P Ψ c c'` says that runs of P from c and c' write equal words at the acts that m marks and end as Ψ says,
-- where at each draw the two tape words differ by a number that both machines' cells decide. A proof of it is a pairing of tapes: the
-- maps there and back, that each undoes the other, lengths, bounds, the equal words and the ends. Blocks compose by `wp_append` and `wp_mono`.
use mathlib.Core.Path.{◌≡◌, refl, sym, ap, ap₂, ◌∙◌}
use mathlib.Core.Bool.{Bool}
use mathlib.Core.List.{List, [], ◌∷◌, ◌++◌}
use Prim.Native.Nat.{ℕ, zero, suc, ◌^◌, ◌<◌}
use native.Mathlib.Omega.{arith}
use lib.Dec.{T}
use lib.ListN.{length}
use Rattle.bits.specs.Ops.{xor_w}
use Rattle.bits.proofs.Xor.{xor_cancel_r, xor_zero}
use Rattle.bits.proofs.Bound.{xor_lt}
use Rattle.word.specs.declared.step.Step.{Step}
use Rattle.masking.specs.Machine.{Words}
use Rattle.masking.proofs.joined.Cells.{Cells, upd, upd_other, WordCells, upd_words}
use Rattle.masking.proofs.secret.Acts.{Act, write, draw, act, acts, acts_append, draws, word, after, AllFit}

abbrev pub Marks : Type 0
Marks = ℕ → Bool

abbrev pub Rel : Type 1
Rel = Cells → Cells → Type 0

-- the marks after one act
abbrev pub next : Marks → Marks
next m k = m (suc k)

abbrev pub wp : Marks → List Act → Rel → Rel
wp m [] Ψ c c' = Ψ c c'
wp m (write d f ∷ P) Ψ c c' = (T (m 0) → f c ≡ f c') × wp (next m) P Ψ (upd c d (f c)) (upd c' d (f c'))
wp m (draw d ∷ P) Ψ c c' =
    (δ : ℕ) × (T (m 0) → δ ≡ 0) × (WordCells c → WordCells c' → δ < 2 ^ 64) × ((t : ℕ) → wp (next m) P Ψ (upd c d t) (upd c' d (xor_w t δ)))

-- ---- the pairing

pub there : (m : Marks) (P : List Act) (Ψ : Rel) (c c' : Cells) → wp m P Ψ c c' → List ℕ → List ℕ
there m [] Ψ c c' w ts = ts
there m (write d f ∷ P) Ψ c c' w ts = there (next m) P Ψ (upd c d (f c)) (upd c' d (f c')) w.1 ts
there m (draw d ∷ P) Ψ c c' w [] = []
there m (draw d ∷ P) Ψ c c' w (t ∷ ts) = xor_w t w.0 ∷ there (next m) P Ψ (upd c d t) (upd c' d (xor_w t w.0)) (w.3 t) ts

pub back : (m : Marks) (P : List Act) (Ψ : Rel) (c c' : Cells) → wp m P Ψ c c' → List ℕ → List ℕ
back m [] Ψ c c' w ts = ts
back m (write d f ∷ P) Ψ c c' w ts = back (next m) P Ψ (upd c d (f c)) (upd c' d (f c')) w.1 ts
back m (draw d ∷ P) Ψ c c' w [] = []
back m (draw d ∷ P) Ψ c c' w (t ∷ ts) =
    let s = xor_w t w.0 in
    s ∷ back (next m) P Ψ (upd c d s) (upd c' d (xor_w s w.0)) (w.3 s) ts

pub back_there : (m : Marks) (P : List Act) (Ψ : Rel) (c c' : Cells) (w : wp m P Ψ c c') (ts : List ℕ)
    → back m P Ψ c c' w (there m P Ψ c c' w ts) ≡ ts
unfolding there back
back_there m [] Ψ c c' w ts = refl
back_there m (write d f ∷ P) Ψ c c' w ts = back_there (next m) P Ψ (upd c d (f c)) (upd c' d (f c')) w.1 ts
back_there m (draw d ∷ P) Ψ c c' w [] = refl
back_there m (draw d ∷ P) Ψ c c' w (t ∷ ts) =
    rw (xor_cancel_r t w.0) (ap (λ (r : List ℕ). t ∷ r) (back_there (next m) P Ψ (upd c d t) (upd c' d (xor_w t w.0)) (w.3 t) ts))

pub there_back : (m : Marks) (P : List Act) (Ψ : Rel) (c c' : Cells) (w : wp m P Ψ c c') (ts : List ℕ)
    → there m P Ψ c c' w (back m P Ψ c c' w ts) ≡ ts
unfolding there back
there_back m [] Ψ c c' w ts = refl
there_back m (write d f ∷ P) Ψ c c' w ts = there_back (next m) P Ψ (upd c d (f c)) (upd c' d (f c')) w.1 ts
there_back m (draw d ∷ P) Ψ c c' w [] = refl
there_back m (draw d ∷ P) Ψ c c' w (t ∷ ts) =
    let s = xor_w t w.0 in
    ap₂ (λ (x : ℕ) (r : List ℕ). x ∷ r) (xor_cancel_r t w.0) (there_back (next m) P Ψ (upd c d s) (upd c' d (xor_w s w.0)) (w.3 s) ts)

pub there_length : (m : Marks) (P : List Act) (Ψ : Rel) (c c' : Cells) (w : wp m P Ψ c c') (ts : List ℕ)
    → length (there m P Ψ c c' w ts) ≡ length ts
unfolding there
there_length m [] Ψ c c' w ts = refl
there_length m (write d f ∷ P) Ψ c c' w ts = there_length (next m) P Ψ (upd c d (f c)) (upd c' d (f c')) w.1 ts
there_length m (draw d ∷ P) Ψ c c' w [] = refl
there_length m (draw d ∷ P) Ψ c c' w (t ∷ ts) = ap suc (there_length (next m) P Ψ (upd c d t) (upd c' d (xor_w t w.0)) (w.3 t) ts)

pub back_length : (m : Marks) (P : List Act) (Ψ : Rel) (c c' : Cells) (w : wp m P Ψ c c') (ts : List ℕ)
    → length (back m P Ψ c c' w ts) ≡ length ts
back_length m P Ψ c c' w ts =
    sym (there_length m P Ψ c c' w (back m P Ψ c c' w ts)) ∙ ap length (there_back m P Ψ c c' w ts)

words_cons : (t : ℕ) (ts : List ℕ) → t < 2 ^ 64 → Words ts → Words (t ∷ ts)
words_cons t ts l h zero = l
words_cons t ts l h (suc k) = h k

pub there_words : (m : Marks) (P : List Act) (Ψ : Rel) (c c' : Cells) (w : wp m P Ψ c c') (ts : List ℕ)
    → AllFit P → WordCells c → WordCells c' → Words ts → Words (there m P Ψ c c' w ts)
unfolding there
there_words m [] Ψ c c' w ts F h h' l = l
there_words m (write d f ∷ P) Ψ c c' w ts F h h' l =
    there_words (next m) P Ψ (upd c d (f c)) (upd c' d (f c')) w.1 ts F.1 (upd_words c d (f c) h (F.0 c h)) (upd_words c' d (f c') h' (F.0 c' h')) l
there_words m (draw d ∷ P) Ψ c c' w [] F h h' l = l
there_words m (draw d ∷ P) Ψ c c' w (t ∷ ts) F h h' l =
    let s : xor_w t w.0 < 2 ^ 64 = xor_lt 64 t w.0 (l 0) (w.2 h h') in
    words_cons (xor_w t w.0) (there (next m) P Ψ (upd c d t) (upd c' d (xor_w t w.0)) (w.3 t) ts) s
    (there_words (next m) P Ψ (upd c d t) (upd c' d (xor_w t w.0)) (w.3 t) ts F (upd_words c d t h (l 0)) (upd_words c' d (xor_w t w.0) h' s) (λ k. l (suc k)))

pub back_words : (m : Marks) (P : List Act) (Ψ : Rel) (c c' : Cells) (w : wp m P Ψ c c') (ts : List ℕ)
    → AllFit P → WordCells c → WordCells c' → Words ts → Words (back m P Ψ c c' w ts)
unfolding back
back_words m [] Ψ c c' w ts F h h' l = l
back_words m (write d f ∷ P) Ψ c c' w ts F h h' l =
    back_words (next m) P Ψ (upd c d (f c)) (upd c' d (f c')) w.1 ts F.1 (upd_words c d (f c) h (F.0 c h)) (upd_words c' d (f c') h' (F.0 c' h')) l
back_words m (draw d ∷ P) Ψ c c' w [] F h h' l = l
back_words m (draw d ∷ P) Ψ c c' w (t ∷ ts) F h h' l =
    let s = xor_w t w.0 in
    let e : s < 2 ^ 64 = xor_lt 64 t w.0 (l 0) (w.2 h h') in
    words_cons s (back (next m) P Ψ (upd c d s) (upd c' d (xor_w s w.0)) (w.3 s) ts) e
    (back_words (next m) P Ψ (upd c d s) (upd c' d (xor_w s w.0)) (w.3 s) ts F (upd_words c d s h e)
    (upd_words c' d (xor_w s w.0) h' (xor_lt 64 s w.0 e (w.2 h h'))) (λ k. l (suc k)))

-- paired runs write equal words at the marked acts
pub paired_words : (m : Marks) (P : List Act) (Ψ : Rel) (c c' : Cells) (w : wp m P Ψ c c') (ts : List ℕ)
    → draws P ≡ length ts → (j : ℕ) → T (m j) → word P j c ts ≡ word P j c' (there m P Ψ c c' w ts)
unfolding there
paired_words m [] Ψ c c' w ts e j h = refl
paired_words m (write d f ∷ P) Ψ c c' w ts e zero h = w.0 h
paired_words m (write d f ∷ P) Ψ c c' w ts e (suc j) h = paired_words (next m) P Ψ (upd c d (f c)) (upd c' d (f c')) w.1 ts e j h
paired_words m (draw d ∷ P) Ψ c c' w [] e j h = absurd (omega arith)
paired_words m (draw d ∷ P) Ψ c c' w (t ∷ ts) e zero h = rw (w.1 h, xor_zero)
paired_words m (draw d ∷ P) Ψ c c' w (t ∷ ts) e (suc j) h =
    paired_words (next m) P Ψ (upd c d t) (upd c' d (xor_w t w.0)) (w.3 t) ts (omega arith) j h

-- and end as Ψ says
pub paired_ends : (m : Marks) (P : List Act) (Ψ : Rel) (c c' : Cells) (w : wp m P Ψ c c') (ts : List ℕ)
    → draws P ≡ length ts → Ψ (after P c ts) (after P c' (there m P Ψ c c' w ts))
unfolding there
paired_ends m [] Ψ c c' w ts e = w
paired_ends m (write d f ∷ P) Ψ c c' w ts e = paired_ends (next m) P Ψ (upd c d (f c)) (upd c' d (f c')) w.1 ts e
paired_ends m (draw d ∷ P) Ψ c c' w [] e = absurd (omega arith)
paired_ends m (draw d ∷ P) Ψ c c' w (t ∷ ts) e = paired_ends (next m) P Ψ (upd c d t) (upd c' d (xor_w t w.0)) (w.3 t) ts (omega arith)

-- ---- the rules of `wp`

-- the marks that are left after a list of acts
abbrev pub past : List Act → Marks → Marks
past [] m = m
past (a ∷ P) m = past P (next m)

pub wp_append : (m : Marks) (P Q : List Act) (Ψ : Rel) (c c' : Cells) → wp m P (wp (past P m) Q Ψ) c c' → wp m (P ++ Q) Ψ c c'
wp_append m [] Q Ψ c c' w = w
wp_append m (write d f ∷ P) Q Ψ c c' w = (w.0, wp_append (next m) P Q Ψ (upd c d (f c)) (upd c' d (f c')) w.1)
wp_append m (draw d ∷ P) Q Ψ c c' w = (w.0, w.1, w.2, λ t. wp_append (next m) P Q Ψ (upd c d t) (upd c' d (xor_w t w.0)) (w.3 t))

pub wp_mono : (m : Marks) (P : List Act) (Ψ Φ : Rel) (c c' : Cells) → ((e e' : Cells) → Ψ e e' → Φ e e') → wp m P Ψ c c' → wp m P Φ c c'
wp_mono m [] Ψ Φ c c' h w = h c c' w
wp_mono m (write d f ∷ P) Ψ Φ c c' h w = (w.0, wp_mono (next m) P Ψ Φ (upd c d (f c)) (upd c' d (f c')) h w.1)
wp_mono m (draw d ∷ P) Ψ Φ c c' h w = (w.0, w.1, w.2, λ t. wp_mono (next m) P Ψ Φ (upd c d t) (upd c' d (xor_w t w.0)) h (w.3 t))

-- one list of steps and then another: Φ is what holds in between
pub wp_then : (m : Marks) (P Q : List Step) (Φ Ψ : Rel) (c c' : Cells) → wp m (acts P) Φ c c'
    → ((e e' : Cells) → Φ e e' → wp (past (acts P) m) (acts Q) Ψ e e') → wp m (acts (P ++ Q)) Ψ c c'
wp_then m P Q Φ Ψ c c' w h =
    rw (acts_append P Q) (wp_append m (acts P) (acts Q) Ψ c c' (wp_mono m (acts P) Φ (wp (past (acts P) m) (acts Q) Ψ) c c' h w))

-- a cell that no act sets
abbrev pub Off : ℕ → List Act → Type 0
Off k [] = Unit
Off k (write d f ∷ P) = (k ≡ d → ⊥) × Off k P
Off k (draw d ∷ P) = (k ≡ d → ⊥) × Off k P

-- the cells off P hold what they held
pub Kept : List Act → Cells → Cells → Rel
Kept P c c' e e' = (k : ℕ) → Off k P → (e k ≡ c k) × (e' k ≡ c' k)

pub wp_frame : (m : Marks) (P : List Act) (Ψ : Rel) (c c' : Cells) → wp m P Ψ c c' → wp m P (λ e e'. Ψ e e' × Kept P c c' e e') c c'
unfolding Kept
wp_frame m [] Ψ c c' w = (w, λ k o. (refl, refl))
wp_frame m (write d f ∷ P) Ψ c c' w = (
  w.0,
  wp_mono (next m) P _ _ (upd c d (f c)) (upd c' d (f c'))
      (λ e e' h. (h.0, λ k o. ((h.1 k o.1).0 ∙ upd_other c d (f c) k o.0, (h.1 k o.1).1 ∙ upd_other c' d (f c') k o.0)))
      (wp_frame (next m) P Ψ (upd c d (f c)) (upd c' d (f c')) w.1),
)
wp_frame m (draw d ∷ P) Ψ c c' w = (
  w.0,
  w.1,
  w.2,
  λ t. wp_mono (next m) P _ _ (upd c d t) (upd c' d (xor_w t w.0))
      (λ e e' h. (h.0, λ k o. ((h.1 k o.1).0 ∙ upd_other c d t k o.0, (h.1 k o.1).1 ∙ upd_other c' d (xor_w t w.0) k o.0)))
      (wp_frame (next m) P Ψ (upd c d t) (upd c' d (xor_w t w.0)) (w.3 t)),
)

-- a cell that no act sets and in which the runs agree, they agree in still
pub kept_equal : (P : List Act) (c c' e e' : Cells) → Kept P c c' e e' → (k : ℕ) → Off k P → c k ≡ c' k → e k ≡ e' k
unfolding Kept
kept_equal P c c' e e' f k o q = (f k o).0 ∙ q ∙ sym (f k o).1

-- a write whose two words are known
pub wp_write : (m : Marks) (d : ℕ) (f : Cells → ℕ) (P : List Act) (Ψ : Rel) (c c' : Cells) {v v' : ℕ}
    → f c ≡ v → f c' ≡ v' → (T (m 0) → v ≡ v') → wp (next m) P Ψ (upd c d v) (upd c' d v') → wp m (write d f ∷ P) Ψ c c'
wp_write m d f P Ψ c c' e e' k w = rw (e, e') (k, w)

-- a step known to be a write
pub wp_step : (m : Marks) (s : Step) (d : ℕ) (f : Cells → ℕ) (P : List Act) (Ψ : Rel) (c c' : Cells) → act s ≡ write d f
    → (T (m 0) → f c ≡ f c') → wp (next m) P Ψ (upd c d (f c)) (upd c' d (f c')) → wp m (act s ∷ P) Ψ c c'
wp_step m s d f P Ψ c c' e k w = rw e (k, w)

-- two cells that agree and are not the written one agree still
pub other_equal : (c c' : Cells) (d v v' k : ℕ) → (k ≡ d → ⊥) → c k ≡ c' k → upd c d v k ≡ upd c' d v' k
other_equal c c' d v v' k o q = upd_other c d v k o ∙ q ∙ sym (upd_other c' d v' k o)
