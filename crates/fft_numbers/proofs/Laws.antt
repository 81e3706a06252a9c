-- Laws of lists of acts: one list after another, on plain words and on shares, and its tape words.
use mathlib.Core.Path.{◌≡◌, refl, ap, ◌∙◌}
use mathlib.Core.List.{List, [], ◌∷◌, ◌++◌}
use Prim.Native.Nat.{ℕ, ◌+◌}
use native.Mathlib.Omega.{arith}
use lib.ListN.{drop}
use lib.Seq.{drop-drop}
use Rattle.fft_numbers.specs.Acts.{Act, Slots, on_plain, run_plain, on_shares, act_tape, tape_for, run_shares}

pub plain_append : (cs ds : List Act) (s : Slots ℕ) → run_plain (cs ++ ds) s ≡ run_plain ds (run_plain cs s)
plain_append [] ds s = refl
plain_append (c ∷ cs) ds s = plain_append cs ds (on_plain c s)

pub tape_append : (n : ℕ) (cs ds : List Act) → tape_for n (cs ++ ds) ≡ tape_for n cs + tape_for n ds
tape_append n [] ds = omega arith
tape_append n (c ∷ cs) ds = omega (arith, tape_append n cs ds)

pub shares_append : (n : ℕ) (cs ds : List Act) (tape : List ℕ) (s : Slots (List ℕ))
    → run_shares n (cs ++ ds) tape s ≡ run_shares n ds (drop (tape_for n cs) tape) (run_shares n cs tape s)
shares_append n [] ds tape s = refl
shares_append n (c ∷ cs) ds tape s =
    shares_append n cs ds (drop (act_tape n c) tape) (on_shares n c tape s)
    ∙ ap (λ (t : List ℕ). run_shares n ds t (run_shares n cs (drop (act_tape n c) tape) (on_shares n c tape s))) (drop-drop (tape_for n cs) (act_tape n c) tape)
