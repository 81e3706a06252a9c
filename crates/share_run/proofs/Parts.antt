-- The parts of program and tape that a run is given. Rests on masking's OneRun and InARow.
use mathlib.Core.Path.{◌≡◌, sym, ap, ◌∙◌}
use mathlib.Core.List.{List}
use Prim.Native.Nat.{ℕ, ◌+◌, ◌-◌, min}
use native.Mathlib.Nat.{add-sub_cancel_left, le_of_eq}
use lib.ListN.{length, take, drop, length-drop}
use lib.Seq.{take_all}
use Rattle.masking.specs.Runs.{due}
use Rattle.masking.proofs.OneRun.{due_length}
use Rattle.masking.proofs.InARow.{due_take}

-- the part of a program that a run does, and its length
pub due_part : (P : List ℕ) (m b : ℕ) {k : ℕ} → k ≡ min b (length P - m) → take (m + k - m) (drop m P) ≡ due P m b
due_part P m b e =
    ap (λ (k : ℕ). take (m + k - m) (drop m P)) e ∙
    ap (λ (k : ℕ). take k (drop m P)) (add-sub_cancel_left m (min b (length P - m)) ∙ sym (due_length P m b)) ∙ due_take P m b

-- a part up to the end
pub rest_part : (l : List ℕ) (k : ℕ) → take (length l - k) (drop k l) ≡ drop k l
rest_part l k = take_all (length l - k) (drop k l) (le_of_eq (length-drop k l))
