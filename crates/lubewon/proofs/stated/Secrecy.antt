-- The claims on secrecy, field by field, over the machines' own definitions: paired tapes, a step's word over them, agreement kept, and the AND that
-- leaks. What is narrowed, halved or asks for more fails here.
use mathlib.Core.Path.{◌≡◌}
use mathlib.Core.List.{List, ◌∷◌, ◌++◌}
use Prim.Native.Nat.{ℕ, suc, ◌<◌}
use lib.ListN.{length, get_or}
use Rattle.word.specs.Encoding.{field_d}
use Rattle.word.specs.Head.{head_word}
use Rattle.masking.specs.Translation.{program}
use Rattle.masking.specs.Foretold.{Accepted, foretold_tape}
use Rattle.masking.specs.Machine.{Start, exec, exec_steps}
use Rattle.masking.specs.Runs.{State, Run, standing, in_arow, words_done}
use Rattle.masking.specs.Secrecy.{Tape, Pairing, Hidden, Secret}
use Rattle.masking.specs.Kept.{EndsAgree}
use Rattle.masking.specs.Leaks.{unrefreshed, Leak}
use Rattle.lubewon.specs.Claims.{Claims}
use Rattle.lubewon.proofs.stated.Conditions.{SameShare}

module _ {L : ℕ} (h : Pairing L) where
  pairing_there : List ℕ → List ℕ
  pairing_there = h.there

  pairing_back : List ℕ → List ℕ
  pairing_back = h.back

  pairing_there_tape : (tape : List ℕ) → Tape L tape → Tape L (h.there tape)
  pairing_there_tape = h.there_tape

  pairing_back_tape : (tape : List ℕ) → Tape L tape → Tape L (h.back tape)
  pairing_back_tape = h.back_tape

  pairing_back_there : (tape : List ℕ) → Tape L tape → h.back (h.there tape) ≡ tape
  pairing_back_there = h.back_there

  pairing_there_back : (tape : List ℕ) → Tape L tape → h.there (h.back tape) ≡ tape
  pairing_there_back = h.there_back

-- a step's word, over paired tapes: equal, wherever the lists of runs end with that step
module _ (n : ℕ) (plan : List ℕ) where
  abbrev ran : List ℕ → List ℕ → List ℕ → List Run → State
  ran c before tape runs = in_arow (head_word n ∷ program n plan) (before ++ tape) (standing c 0 (length before)) runs

  abbrev words : List ℕ → List ℕ → List ℕ → List Run → ℕ
  words c before tape runs = words_done (head_word n ∷ program n plan) (before ++ tape) (standing c 0 (length before)) runs

  module _ (s : ℕ) (l l' : List ℕ) (h : Hidden n plan s l l') where
    hidden_pairing : Pairing (foretold_tape n plan)
    hidden_pairing = h.pairing

    hidden_equal : (tape : List ℕ) → Tape (foretold_tape n plan) tape → (before before' : List ℕ) (runs runs' : List Run)
        → words l before tape runs ≡ suc (suc s) → words l' before' (h.pairing.there tape) runs' ≡ suc (suc s)
        → get_or (ran l before tape runs).cells (field_d (get_or (program n plan) s 0)) 0
        ≡ get_or (ran l' before' (h.pairing.there tape) runs').cells (field_d (get_or (program n plan) s 0)) 0
    hidden_equal = h.equal

module _ {n : ℕ} {plan : List ℕ} {s : ℕ} (h : Secret n plan s) where
  secret_share : ℕ
  secret_share = h.share

  secret_below : h.share < n
  secret_below = h.below

  secret_hidden : (l l' : List ℕ) → Start l → Start l' → SameShare h.share l l' → Hidden n plan s l l'
  secret_hidden = h.hidden

module _ {n : ℕ} {plan : List ℕ} {i : ℕ} {l l' : List ℕ} (h : EndsAgree n plan i l l') where
  ends_agree_pairing : Pairing (foretold_tape n plan)
  ends_agree_pairing = h.pairing

  ends_agree_agree : (tape : List ℕ) → Tape (foretold_tape n plan) tape
      → SameShare i (exec (program n plan) tape l) (exec (program n plan) (h.pairing.there tape) l')
  ends_agree_agree = h.agree

module _ {i : ℕ} (h : Leak i) where
  leak_l : List ℕ
  leak_l = h.l

  leak_l' : List ℕ
  leak_l' = h.l'

  leak_start : Start h.l
  leak_start = h.start

  leak_start' : Start h.l'
  leak_start' = h.start'

  leak_agree : SameShare i h.l h.l'
  leak_agree = h.agree

  leak_differ : (tape tape' : List ℕ) → get_or (exec_steps unrefreshed tape h.l) 273 0 ≡ get_or (exec_steps unrefreshed tape' h.l') 273 0 → ⊥
  leak_differ = h.differ

module _ (C : Claims) where
  keeps_shares : (n : ℕ) (plan : List ℕ) → Accepted n plan → (i : ℕ) → i < n → (l l' : List ℕ) → Start l → Start l' → SameShare i l l'
      → EndsAgree n plan i l l'
  keeps_shares = C.keeps_shares

  unrefreshed_leaks : Leak 0 × Leak 1
  unrefreshed_leaks = C.unrefreshed_leaks
