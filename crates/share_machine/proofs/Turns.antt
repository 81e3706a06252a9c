-- One turn of a loop over share words: its effect on cells and tape. Rests on masking's OneRun and InARow.
use mathlib.Core.Path.{◌≡◌, sym, ap, ◌∙◌}
use mathlib.Core.List.{List, [], ◌∷◌, ◌++◌}
use Prim.Native.Nat.{ℕ, ◌+◌, ◌<◌}
use native.Mathlib.Numerals.{add-one}
use lib.ListN.{length, get_or, drop}
use lib.Seq.{drop-cons, drop-drop}
use Rattle.masking.specs.Machine.{exec, rands}
use Rattle.masking.proofs.InARow.{exec_append, rands_append}

module _ (words : List ℕ) (i : ℕ) (h : i < length words) where
  next_word : drop i words ≡ (get_or words i 0 ∷ []) ++ drop (i + 1) words
  next_word = drop-cons words i 0 h ∙ ap (λ (k : ℕ). get_or words i 0 ∷ drop k words) (sym (add-one i))

  pub rands_turn : rands (drop i words) ≡ rands (get_or words i 0 ∷ []) + rands (drop (i + 1) words)
  rands_turn = ap rands next_word ∙ rands_append (get_or words i 0 ∷ []) (drop (i + 1) words)

  pub exec_turn : (tape cells : List ℕ) (t : ℕ)
      → exec (drop i words) (drop t tape) cells
      ≡ exec (drop (i + 1) words) (drop (t + rands (get_or words i 0 ∷ [])) tape) (exec (get_or words i 0 ∷ []) (drop t tape) cells)
  exec_turn tape cells t =
      ap (λ (l : List ℕ). exec l (drop t tape) cells) next_word
      ∙ exec_append (get_or words i 0 ∷ []) (drop (i + 1) words) (drop t tape) cells
      ∙ ap (λ (a : List ℕ). exec (drop (i + 1) words) a (exec (get_or words i 0 ∷ []) (drop t tape) cells)) (drop-drop (rands (get_or words i 0 ∷ [])) t tape)
