-- A step as one of two acts: it writes a word made of the cells, or the next tape word. The words that acts write are what the steps'
-- cells hold after them (`word_exec`), the cells after acts are those after the steps (`after_exec`), and acts draw as many tape words as the
-- steps take. Rests on Cells.
use mathlib.Core.Path.{◌≡◌, refl, sym, ap, ◌∙◌}
use mathlib.Core.List.{List, [], ◌∷◌, ◌++◌, map}
use Prim.Native.Nat.{ℕ, zero, suc, ◌+◌, ◌^◌, ◌<◌}
use native.Mathlib.Omega.{arith}
use lib.Dec.{T}
use lib.ListN.{length, get_or, take, drop}
use Rattle.bits.specs.Ops.{xor_w, and_w, not_w, shl_w, shr_w, spread_w, add_w}
use Rattle.word.specs.declared.step.Step.{Step}
use Rattle.word.specs.declared.step.Step.TheVariants.{Const, Xor, And, Not, Shl, Shr, Spread, Add, Rand}
use Rattle.word.specs.Encoding.{in_program}
use Rattle.word.specs.Table.{dest, becomes}
use Rattle.masking.specs.Machine.{takes, exec_steps, rands_of}
use Rattle.masking.proofs.emitted.Tests.{All, all_take}
use Rattle.masking.proofs.joined.Cells.{Cells, upd, upd_same, WordCells, steps_on, at, exec_on, program_fits}

pub data Act : Type 0 where
  write : ℕ → (Cells → ℕ) → Act
  draw : ℕ → Act

abbrev pub act : Step → Act
act (Const d k) = write d (λ c. k)
act (Xor d a b) = write d (λ c. xor_w (c a) (c b))
act (And d a b) = write d (λ c. and_w (c a) (c b))
act (Not d a) = write d (λ c. not_w (c a))
act (Shl d a b) = write d (λ c. shl_w (c a) b)
act (Shr d a b) = write d (λ c. shr_w (c a) b)
act (Spread d a) = write d (λ c. spread_w (c a))
act (Add d a b) = write d (λ c. add_w (c a) (c b))
act (Rand d) = draw d

abbrev pub acts : List Step → List Act
acts ss = map act ss

pub acts_append : (xs ys : List Step) → acts (xs ++ ys) ≡ acts xs ++ acts ys
acts_append [] ys = refl
acts_append (x ∷ xs) ys = ap (λ (r : List Act). act x ∷ r) (acts_append xs ys)

-- the tape words that acts take
abbrev pub draws : List Act → ℕ
draws [] = 0
draws (write d f ∷ P) = draws P
draws (draw d ∷ P) = suc (draws P)

-- the word that act j writes
abbrev pub word : List Act → ℕ → Cells → List ℕ → ℕ
word [] j c ts = 0
word (write d f ∷ P) zero c ts = f c
word (write d f ∷ P) (suc j) c ts = word P j (upd c d (f c)) ts
word (draw d ∷ P) zero c ts = get_or ts 0 0
word (draw d ∷ P) (suc j) c ts = word P j (upd c d (get_or ts 0 0)) (drop 1 ts)

-- the cells after acts
abbrev pub after : List Act → Cells → List ℕ → Cells
after [] c ts = c
after (write d f ∷ P) c ts = after P (upd c d (f c)) ts
after (draw d ∷ P) c ts = after P (upd c d (get_or ts 0 0)) (drop 1 ts)

-- ---- one step's act against the table: its draw, its word, the words of the acts after it, and the cells after those
pub record Acting (s : Step) : Type 0 where
  pub takes_one : (P : List Act) → draws (act s ∷ P) ≡ takes s + draws P
  pub here : (P : List Act) (c : Cells) (ts : List ℕ) → word (act s ∷ P) 0 c ts ≡ becomes s c (get_or ts 0 0)
  pub later : (P : List Act) (j : ℕ) (c : Cells) (ts : List ℕ)
      → word (act s ∷ P) (suc j) c ts ≡ word P j (upd c (dest s) (becomes s c (get_or ts 0 0))) (drop (takes s) ts)
  pub ends : (P : List Act) (c : Cells) (ts : List ℕ) → after (act s ∷ P) c ts ≡ after P (upd c (dest s) (becomes s c (get_or ts 0 0))) (drop (takes s) ts)

pub acting : (s : Step) → Acting s
acting (Const d k) = record { takes_one = λ P. omega arith; here = λ P c ts. refl; later = λ P j c ts. refl; ends = λ P c ts. refl }
acting (Xor d a b) = record { takes_one = λ P. omega arith; here = λ P c ts. refl; later = λ P j c ts. refl; ends = λ P c ts. refl }
acting (And d a b) = record { takes_one = λ P. omega arith; here = λ P c ts. refl; later = λ P j c ts. refl; ends = λ P c ts. refl }
acting (Not d a) = record { takes_one = λ P. omega arith; here = λ P c ts. refl; later = λ P j c ts. refl; ends = λ P c ts. refl }
acting (Shl d a b) = record { takes_one = λ P. omega arith; here = λ P c ts. refl; later = λ P j c ts. refl; ends = λ P c ts. refl }
acting (Shr d a b) = record { takes_one = λ P. omega arith; here = λ P c ts. refl; later = λ P j c ts. refl; ends = λ P c ts. refl }
acting (Spread d a) = record { takes_one = λ P. omega arith; here = λ P c ts. refl; later = λ P j c ts. refl; ends = λ P c ts. refl }
acting (Add d a b) = record { takes_one = λ P. omega arith; here = λ P c ts. refl; later = λ P j c ts. refl; ends = λ P c ts. refl }
acting (Rand d) = record { takes_one = λ P. omega arith; here = λ P c ts. refl; later = λ P j c ts. refl; ends = λ P c ts. refl }

pub draws_rands : (ss : List Step) → draws (acts ss) ≡ rands_of ss
draws_rands [] = refl
draws_rands (s ∷ ss) = (acting s).takes_one (acts ss) ∙ ap (λ (x : ℕ). takes s + x) (draws_rands ss)

word_on : (ss : List Step) (j : ℕ) → j < length ss → (c : Cells) (ts : List ℕ) → word (acts ss) j c ts ≡ steps_on (take (suc j) ss) ts c (dest (get_or ss j (Rand 0)))
word_on [] j h c ts = absurd (omega arith)
word_on (s ∷ ss) zero h c ts = (acting s).here (acts ss) c ts ∙ sym (upd_same c (dest s) (becomes s c (get_or ts 0 0)))
word_on (s ∷ ss) (suc j) h c ts =
    (acting s).later (acts ss) j c ts ∙ word_on ss j (omega arith) (upd c (dest s) (becomes s c (get_or ts 0 0))) (drop (takes s) ts)

-- what step j's cell holds after it, over a list of cells
pub word_exec : (ss : List Step) (j : ℕ) → j < length ss → All (λ s. T (in_program s)) ss → (l ts : List ℕ) → length l ≡ 512
    → word (acts ss) j (at l) ts ≡ get_or (exec_steps (take (suc j) ss) ts l) (dest (get_or ss j (Rand 0))) 0
word_exec ss j h good l ts e =
    word_on ss j h (at l) ts
    ∙ ap (λ (c : Cells). c (dest (get_or ss j (Rand 0)))) (sym (exec_on (take (suc j) ss) (all_take (λ s. T (in_program s)) (suc j) ss good) l ts e))

after_on : (ss : List Step) (c : Cells) (ts : List ℕ) → after (acts ss) c ts ≡ steps_on ss ts c
after_on [] c ts = refl
after_on (s ∷ ss) c ts = (acting s).ends (acts ss) c ts ∙ after_on ss (upd c (dest s) (becomes s c (get_or ts 0 0))) (drop (takes s) ts)

-- the cells after all steps, over a list of cells
pub after_exec : (ss : List Step) → All (λ s. T (in_program s)) ss → (l ts : List ℕ) → length l ≡ 512 → after (acts ss) (at l) ts ≡ at (exec_steps ss ts l)
after_exec ss good l ts e = after_on ss (at l) ts ∙ sym (exec_on ss good l ts e)

-- ---- acts that write words where the cells are words
abbrev pub AllFit : List Act → Type 0
AllFit [] = Unit
AllFit (write d f ∷ P) = ((c : Cells) → WordCells c → f c < 2 ^ 64) × AllFit P
AllFit (draw d ∷ P) = AllFit P

act_fits : (s : Step) → ((c : Cells) → WordCells c → becomes s c 0 < 2 ^ 64) → (P : List Act) → AllFit P → AllFit (act s ∷ P)
act_fits (Const d k) h P f = (h, f)
act_fits (Xor d a b) h P f = (h, f)
act_fits (And d a b) h P f = (h, f)
act_fits (Not d a) h P f = (h, f)
act_fits (Shl d a b) h P f = (h, f)
act_fits (Shr d a b) h P f = (h, f)
act_fits (Spread d a) h P f = (h, f)
act_fits (Add d a b) h P f = (h, f)
act_fits (Rand d) h P f = f

pub all_fit : (ss : List Step) → All (λ s. T (in_program s)) ss → AllFit (acts ss)
all_fit [] h = tt
all_fit (s ∷ ss) h = act_fits s (λ c w. program_fits s h.0 c 0 w (omega arith)) (acts ss) (all_fit ss h.1)
