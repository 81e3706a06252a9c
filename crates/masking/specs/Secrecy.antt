-- Secrecy of one step, from document 01's section "Share runs in a row": "Two starts agree in share i .. The pairing may depend on the
-- step and the two starts; it takes each tape of the foretold length to one such tape, and each is met once."
use Rattle.std.specs.Prelude.{◌≡◌, List, ◌++◌, ℕ, suc, ◌<◌, length, get_or}
use Rattle.word.specs.Encoding.{field_d}
use Rattle.word.specs.Layout.{cell}
use Rattle.masking.specs.Translation.{program, headed}
use Rattle.masking.specs.Foretold.{foretold_tape}
use Rattle.masking.specs.Machine.{Start, Words}
use Rattle.masking.specs.Runs.{State, Run, standing, in_arow, words_done}

-- "agree in share i, i below n, if cells 32i + r are equal for all registers r; other cells may differ"
abbrev pub Agree : ℕ → List ℕ → List ℕ → Type 0
Agree i l l' = (r : ℕ) → r < 32 → get_or l (cell i r) 0 ≡ get_or l' (cell i r) 0

-- a tape of length L: words
pub record Tape (L : ℕ) (tape : List ℕ) : Type 0 where
  pub size : length tape ≡ L
  pub words : Words tape

-- tapes of one length pair off one to one: a map of them with its inverse
pub record Pairing (L : ℕ) : Type 0 where
  pub there : List ℕ → List ℕ
  pub back : List ℕ → List ℕ
  pub there_tape : (tape : List ℕ) → Tape L tape → Tape L (there tape)
  pub back_tape : (tape : List ℕ) → Tape L tape → Tape L (back tape)
  pub back_there : (tape : List ℕ) → Tape L tape → back (there tape) ≡ tape
  pub there_back : (tape : List ℕ) → Tape L tape → there (back tape) ≡ tape

-- a list of runs, over the tape that follows the words `before`, from its place on: where it leaves off, the words done
module _ (n : ℕ) (plan cells before tape : List ℕ) (runs : List Run) where
  abbrev pub left_after : State
  left_after = in_arow (headed n plan) (before ++ tape) (standing cells 0 (length before)) runs

  abbrev pub done_after : ℕ
  done_after = words_done (headed n plan) (before ++ tape) (standing cells 0 (length before)) runs

-- "A step's word is what its cell d holds after a list whose last word done is that step." Step s is word s behind the head, which "writes no
-- word" (document 02, No. 7) and is no step.
abbrev pub word_after : ℕ → List ℕ → ℕ → List ℕ → List ℕ → List ℕ → List Run → ℕ
word_after n plan s cells before tape runs = get_or (left_after n plan cells before tape runs).cells (field_d (get_or (program n plan) s 0)) 0

-- paired runs write equal words at step s, with which the head and s + 1 words are done
pub record Hidden (n : ℕ) (plan : List ℕ) (s : ℕ) (l l' : List ℕ) : Type 0 where
  pub pairing : Pairing (foretold_tape n plan)
  pub equal : (tape : List ℕ) → Tape (foretold_tape n plan) tape
      → (before before' : List ℕ) (runs runs' : List Run)
      → done_after n plan l before tape runs ≡ suc (suc s)
      → done_after n plan l' before' (pairing.there tape) runs' ≡ suc (suc s)
      → word_after n plan s l before tape runs ≡ word_after n plan s l' before' (pairing.there tape) runs'

-- some share number: for any two starts that agree in that share, step s is hidden. The starts may differ in all else.
pub record Secret (n : ℕ) (plan : List ℕ) (s : ℕ) : Type 0 where
  pub share : ℕ
  pub below : share < n
  pub hidden : (l l' : List ℕ) → Start l → Start l' → Agree share l l' → Hidden n plan s l l'
