-- SECRECY OF A SHARE PROGRAM, whatever wrote it. A program is given by its words, the length L of its tape, its steps, and the registers R among w in
-- which starts have to agree (`ShareProgram`); one made of blocks is such (`blocks_program`). Any choice of fewer than n of its steps is hidden in
-- no more shares than steps (`program_secret`), and each single step in one share (`one_step`). Translated plans are an instance (Secret).
-- Rests on Hidden for the steps, and on emitted's Steps for words that take apart to them.
use mathlib.Core.Path.{◌≡◌, sym, ap, ap₂, subst, ◌∙◌}
use mathlib.Core.Bool.{Bool}
use mathlib.Core.List.{List, [], ◌∷◌, map}
use Prim.Native.Nat.{ℕ, zero, suc, ◌/◌, ◌<◌, ◌≤◌}
use native.Mathlib.Omega.{arith}
use lib.Dec.{T}
use lib.ListN.{length, get_or, take, length-map}
use Rattle.word.specs.declared.step.Step.{Step}
use Rattle.word.specs.declared.step.Step.TheVariants.{Const, Xor, And, Not, Shl, Shr, Spread, Add, Rand}
use Rattle.word.specs.Encoding.{field_d, put, word_of, in_program}
use Rattle.word.specs.Table.{dest}
use Rattle.masking.specs.Translation.{Scratch, blocks}
use Rattle.masking.specs.Machine.{steps_of, exec_steps, rands_of, exec, Start}
use Rattle.masking.specs.Secrecy.{Tape, Pairing}
use Rattle.masking.proofs.emitted.Tests.{All}
use Rattle.masking.proofs.emitted.Places.{Places}
use Rattle.masking.proofs.emitted.Steps.{steps_of_first}
use Rattle.masking.proofs.joined.Cells.{program_dest}
use Rattle.masking.proofs.secret.Sets.{has, has_head}
use Rattle.masking.proofs.secret.Reading.{reading}
use Rattle.masking.proofs.secret.Hidden.{word_at, AgreeIn, HiddenIn, blocks_hidden}

-- ---- words and steps

put_field : (k d a b : ℕ) → d < 512 → field_d (put k d a b) ≡ d
unfolding put
put_field k d a b h = omega arith

-- a word's field d is its step's cell
word_dest : (s : Step) → T (in_program s) → field_d (word_of s) ≡ dest s
word_dest (Const d k) h = put_field 1 d (k / 512) k (program_dest (Const d k) h)
word_dest (Xor d a b) h = put_field 2 d a b (program_dest (Xor d a b) h)
word_dest (And d a b) h = put_field 3 d a b (program_dest (And d a b) h)
word_dest (Not d a) h = put_field 4 d a 0 (program_dest (Not d a) h)
word_dest (Shl d a b) h = put_field 5 d a b (program_dest (Shl d a b) h)
word_dest (Shr d a b) h = put_field 6 d a b (program_dest (Shr d a b) h)
word_dest (Spread d a) h = put_field 7 d a 0 (program_dest (Spread d a) h)
word_dest (Add d a b) h = absurd h
word_dest (Rand d) h = put_field 9 d 0 0 (program_dest (Rand d) h)

field_at : (ss : List Step) → All (λ s. T (in_program s)) ss → (j : ℕ) → j < length ss → field_d (get_or (map word_of ss) j 0) ≡ dest (get_or ss j (Rand 0))
field_at [] h j l = absurd (omega arith)
field_at (s ∷ ss) h zero l = word_dest s h.0
field_at (s ∷ ss) h (suc j) l = field_at ss h.1 j (omega arith)

-- what the cell of word s holds after it
abbrev pub word_held : List ℕ → ℕ → List ℕ → List ℕ → ℕ
word_held words s tape l = get_or (exec (take (suc s) words) tape l) (field_d (get_or words s 0)) 0

-- words that are those of share steps
module _ (words : List ℕ) (steps : List Step) (written : words ≡ map word_of steps) (good : All (λ s. T (in_program s)) steps) where
  pub steps_length : length words ≡ length steps
  steps_length = ap length written ∙ length-map steps word_of

  pub held_at : (s : ℕ) → s < length words → (tape l : List ℕ) → word_held words s tape l ≡ word_at steps s tape l
  held_at s h tape l =
      ap₂ (λ (ss : List Step) (d : ℕ). get_or (exec_steps ss tape l) d 0)
      (ap (λ (ws : List ℕ). steps_of (take (suc s) ws)) written ∙ steps_of_first steps good (suc s))
      (ap (λ (ws : List ℕ). field_d (get_or ws s 0)) written ∙ field_at steps good s (omega (arith, steps_length)))

-- ---- hidden steps of a program

-- tapes pair off, and paired runs write equal words at the steps js
pub record StepsHidden (words : List ℕ) (L : ℕ) (js l l' : List ℕ) : Type 0 where
  pub pairing : Pairing L
  pub equal : (tape : List ℕ) → Tape L tape → (s : ℕ) → s < length words → T (has js s) → word_held words s tape l ≡ word_held words s (pairing.there tape) l'

-- at step s
pub record StepHidden (words : List ℕ) (L s : ℕ) (l l' : List ℕ) : Type 0 where
  pub pairing : Pairing L
  pub equal : (tape : List ℕ) → Tape L tape → word_held words s tape l ≡ word_held words s (pairing.there tape) l'

-- two starts agree in share i of the registers R among w
abbrev pub AgreeShare : ℕ → (ℕ → Bool) → ℕ → List ℕ → List ℕ → Type 0
AgreeShare w R i l l' = AgreeIn w R (i ∷ []) l l'

pub record ShareProgram (n w : ℕ) (R : ℕ → Bool) (words : List ℕ) (L : ℕ) : Type 0 where
  pub steps : List Step
  pub written : words ≡ map word_of steps
  pub good : All (λ s. T (in_program s)) steps
  pub tape : rands_of steps ≡ L
  pub hidden : (js : List ℕ) → length js < n → HiddenIn n w R steps js

-- made of blocks: those of steps on w registers that read registers of R, or such as were set before
pub blocks_program : (n w : ℕ) (sc : Scratch) → Places n w sc → (ss : List Step) (R : ℕ → Bool) → T (reading w R ss)
    → All (λ s. T (in_program s)) (blocks sc n ss) → (words : List ℕ) → words ≡ map word_of (blocks sc n ss) → (L : ℕ) → rands_of (blocks sc n ss) ≡ L
    → ShareProgram n w R words L
blocks_program n w sc places ss R reads good words written L tape =
    record { steps = blocks sc n ss; written = written; good = good; tape = tape; hidden = blocks_hidden n w sc places ss R reads good }

-- THE THEOREM, of a choice of steps and of one
module _ (n w : ℕ) (R : ℕ → Bool) (words : List ℕ) (L : ℕ) (P : ShareProgram n w R words L) where
  -- a pairing of tapes of length k with equal words at the steps js
  abbrev Equal : List ℕ → List ℕ → List ℕ → ℕ → Type 0
  Equal js l l' k =
      (p : Pairing k) × ((tape : List ℕ) → Tape k tape → (s : ℕ) → s < length words → T (has js s) → word_held words s tape l ≡ word_held words s (p.there tape) l')

  pub program_secret : (js : List ℕ) → length js < n
      → (S : List ℕ) × (length S ≤ length js) × ((i : ℕ) → T (has S i) → i < n)
      × ((l l' : List ℕ) → Start l → Start l' → AgreeIn w R S l l' → StepsHidden words L js l l')
  program_secret js few =
      let q = P.hidden js few in
      let held = held_at words P.steps P.written P.good in (
        q.0,
        q.1,
        q.2,
        λ l l' st st' g.
            let h = q.3 l l' st st' g in
            let e : Equal js l l' L =
            subst (Equal js l l') P.tape (
              h.pairing,
              λ tape t s ls x.
                  held s ls tape l ∙ h.equal tape t s (omega (arith, steps_length words P.steps P.written P.good)) x ∙ sym (held s ls (h.pairing.there tape) l'),
            ) in
            record { pairing = e.0; equal = e.1 },
      )

  pub one_step : 2 ≤ n → (s : ℕ) → s < length words
      → (i : ℕ) × (i < n) × ((l l' : List ℕ) → Start l → Start l' → AgreeShare w R i l l' → StepHidden words L s l l')
  one_step two s h = let q = program_secret (s ∷ []) two in by q.0 q.1 q.2 q.3
    where
      one : (l l' : List ℕ) → StepsHidden words L (s ∷ []) l l' → StepHidden words L s l l'
      one l l' q = record { pairing = q.pairing; equal = λ tape t. q.equal tape t s h (has_head [] s) }

      by : (S : List ℕ) → length S ≤ 1 → ((i : ℕ) → T (has S i) → i < n)
          → ((l l' : List ℕ) → Start l → Start l' → AgreeIn w R S l l' → StepsHidden words L (s ∷ []) l l')
          → (i : ℕ) × (i < n) × ((l l' : List ℕ) → Start l → Start l' → AgreeShare w R i l l' → StepHidden words L s l l')
      by [] le lt f = (0, omega (arith, two), λ l l' st st' g. one l l' (f l l' st st' (λ i x. absurd x)))
      by (x ∷ []) le lt f = (x, lt x (has_head [] x), λ l l' st st' g. one l l' (f l l' st st' g))
      by (x ∷ y ∷ S) le lt f = absurd (omega arith)
