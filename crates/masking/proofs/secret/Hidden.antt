-- From two runs in step to the pairing of tapes, over lists of cells: `hides` and `ends` for any share steps; then for any choice of fewer than n
-- steps and starts that agree in registers R, `row_hidden` for rows of gadgets and `blocks_hidden` for the blocks of steps on registers.
use mathlib.Core.Path.{◌≡◌, sym, subst, subst₂, ◌∙◌}
use mathlib.Core.Bool.{Bool}
use mathlib.Core.List.{List, [], map}
use Prim.Native.Nat.{ℕ, suc, ◌<◌, ◌≤◌}
use native.Mathlib.Omega.{arith}
use lib.Dec.{T}
use lib.ListN.{length, get_or, take}
use Rattle.word.specs.declared.step.Step.{Step}
use Rattle.word.specs.declared.step.Step.TheVariants.{Rand}
use Rattle.word.specs.Encoding.{in_program}
use Rattle.word.specs.Table.{dest}
use Rattle.masking.specs.Translation.{Scratch, share_cell, blocks}
use Rattle.masking.specs.Machine.{exec_steps, rands_of, Start}
use Rattle.masking.specs.Secrecy.{Tape, Pairing}
use Rattle.masking.proofs.emitted.Tests.{All}
use Rattle.masking.proofs.emitted.Places.{Places}
use Rattle.masking.proofs.joined.Cells.{at}
use Rattle.masking.proofs.secret.Acts.{acts, draws_rands, word_exec, after_exec, all_fit}
use Rattle.masking.proofs.secret.Wp.{Rel, wp, there, back, back_there, there_back, there_length, back_length, there_words, back_words, paired_words, paired_ends}
use Rattle.masking.proofs.secret.Sets.{has, count, count_has, below, below_lt, below_has, below_size}
use Rattle.masking.proofs.secret.Registers.{Agreed}
use Rattle.masking.proofs.secret.Reading.{reading}
use Rattle.masking.proofs.secret.Gadgets.{Gadget, row, Ready, need, need_size, row_wp}
use Rattle.masking.proofs.secret.Blocks.{gadget, row_blocks, blocks_ready}

-- step j's word: what its cell holds after it
abbrev pub word_at : List Step → ℕ → List ℕ → List ℕ → ℕ
word_at ss j tape l = get_or (exec_steps (take (suc j) ss) tape l) (dest (get_or ss j (Rand 0))) 0

-- tapes pair off, and paired runs write equal words at the steps js
pub record Hides (ss : List Step) (js l l' : List ℕ) : Type 0 where
  pub pairing : Pairing (rands_of ss)
  pub equal : (tape : List ℕ) → Tape (rands_of ss) tape → (j : ℕ) → j < length ss → T (has js j) → word_at ss j tape l ≡ word_at ss j (pairing.there tape) l'

-- tapes pair off, and paired runs end as Ψ says
pub record Ends (Ψ : Rel) (ss : List Step) (l l' : List ℕ) : Type 0 where
  pub pairing : Pairing (rands_of ss)
  pub end : (tape : List ℕ) → Tape (rands_of ss) tape → Ψ (at (exec_steps ss tape l)) (at (exec_steps ss (pairing.there tape) l'))

module _ (ss : List Step) (good : All (λ s. T (in_program s)) ss) (js l l' : List ℕ) (st : Start l) (st' : Start l') (Ψ : Rel) (p : wp (has js) (acts ss) Ψ (at l) (at l')) where
  to : List ℕ → List ℕ
  to = there (has js) (acts ss) Ψ (at l) (at l') p

  from : List ℕ → List ℕ
  from = back (has js) (acts ss) Ψ (at l) (at l') p

  pair : Pairing (rands_of ss)
  unfolding to from
  pair =
      record {
        there = to;
        back = from;
        there_tape = λ ts h.
            record {
              size = there_length (has js) (acts ss) Ψ (at l) (at l') p ts ∙ h.size;
              words = there_words (has js) (acts ss) Ψ (at l) (at l') p ts (all_fit ss good) st.words st'.words h.words;
            };
        back_tape = λ ts h.
            record {
              size = back_length (has js) (acts ss) Ψ (at l) (at l') p ts ∙ h.size;
              words = back_words (has js) (acts ss) Ψ (at l) (at l') p ts (all_fit ss good) st.words st'.words h.words;
            };
        back_there = λ ts h. back_there (has js) (acts ss) Ψ (at l) (at l') p ts;
        there_back = λ ts h. there_back (has js) (acts ss) Ψ (at l) (at l') p ts;
      }

  pub hides : Hides ss js l l'
  unfolding pair to
  hides =
      record {
        pairing = pair;
        equal = λ ts h j lj x.
            sym (word_exec ss j lj good l ts st.size)
            ∙ paired_words (has js) (acts ss) Ψ (at l) (at l') p ts (draws_rands ss ∙ sym h.size) j x
            ∙ word_exec ss j lj good l' (to ts) st'.size;
      }

  pub ends : Ends Ψ ss l l'
  unfolding pair to
  ends =
      record {
        pairing = pair;
        end = λ ts h.
            subst₂ Ψ (after_exec ss good l ts st.size) (after_exec ss good l' (to ts) st'.size)
            (paired_ends (has js) (acts ss) Ψ (at l) (at l') p ts (draws_rands ss ∙ sym h.size));
      }

-- two starts agree in the shares S of the registers R among w
abbrev pub AgreeIn : ℕ → (ℕ → Bool) → List ℕ → List ℕ → List ℕ → Type 0
AgreeIn w R S l l' = (i : ℕ) → T (has S i) → (r : ℕ) → r < w → T (R r) → get_or l (share_cell i r) 0 ≡ get_or l' (share_cell i r) 0

-- a choice of steps is hidden in shares, no more than the steps
abbrev pub HiddenIn : ℕ → ℕ → (ℕ → Bool) → List Step → List ℕ → Type 0
HiddenIn n w R ss js =
    (S : List ℕ) × (length S ≤ length js) × ((i : ℕ) → T (has S i) → i < n)
    × ((l l' : List ℕ) → Start l → Start l' → AgreeIn w R S l l' → Hides ss js l l')

pub row_hidden : (n w : ℕ) (gs : List (Gadget n w)) (R : ℕ → Bool) → Ready n w R gs → All (λ s. T (in_program s)) (row n w gs) → (js : List ℕ)
    → length js < n → HiddenIn n w R (row n w gs) js
row_hidden n w gs R ready good js few = (
  below n S,
  omega (arith, below_size n S, need_size n w gs (has js) [], marks),
  below_lt n S,
  λ l l' st st' g.
      hides (row n w gs) good js l l' st st' (Agreed n w R (has []))
      (row_wp n w gs (has js) [] R ready (omega (arith, marks)) (at l) (at l') (λ i r li lr k x. g i (below_has n S i li x) r lr k)),
)
  where
    S : List ℕ
    S = need n w gs (has js) []

    marks : count (has js) (acts (row n w gs)) ≤ length js
    marks = count_has js (acts (row n w gs))

pub blocks_hidden : (n w : ℕ) (sc : Scratch) → Places n w sc → (ss : List Step) (R : ℕ → Bool) → T (reading w R ss)
    → All (λ s. T (in_program s)) (blocks sc n ss) → (js : List ℕ) → length js < n → HiddenIn n w R (blocks sc n ss) js
blocks_hidden n w sc L ss R reads good js few =
    subst (λ (P : List Step). HiddenIn n w R P js) (row_blocks n w sc L ss)
    (row_hidden n w (map (gadget n w sc L) ss) R (blocks_ready n w sc L ss R reads)
    (subst (All (λ s. T (in_program s))) (sym (row_blocks n w sc L ss)) good) js few)
