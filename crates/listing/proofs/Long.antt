-- An input that is too long is turned down by its first bytes alone. Rests on Answered.
use mathlib.Core.Path.{◌≡◌, refl, sym, ap, ◌∙◌}
use mathlib.Core.Bool.{Bool, true, false}
use mathlib.Core.List.{List}
use Prim.Native.Nat.{ℕ, ◌<◌}
use native.Mathlib.Omega.{arith}
use lib.ListN.{length, get_or, take}
use lib.Seq.{length-take-le, get_or-take}
use Rattle.word.specs.Layout.{is_share_count}
use Rattle.checks.specs.Answers.{refused}
use Rattle.listing_lines.specs.Lines.{refused_line}
use Rattle.listing_input.specs.Input.{list_answer}
use Rattle.listing_input.proofs.Answered.{bad_count, too_long}
use Rattle.listing.specs.Sharelist.{listing, LongInputs}

refused_1 : (input : List ℕ) → list_answer input ≡ refused 1 → listing input ≡ refused_line 1
unfolding listing
refused_1 input e = rw e

refused_2 : (input : List ℕ) → list_answer input ≡ refused 2 → listing input ≡ refused_line 2
unfolding listing
refused_2 input e = rw e

-- what is listed goes by the first byte
by_count : Bool → List ℕ
by_count true = refused_line 2
by_count false = refused_line 1

by_first : (input : List ℕ) (b : Bool) → is_share_count (get_or input 0 0) ≡ b → 8193 < length input → listing input ≡ by_count b
unfolding by_count
by_first input true e l = refused_2 input (too_long input (omega arith) e (omega arith))
by_first input false e l = refused_1 input (bad_count input (omega arith) e)

pub long_inputs : LongInputs
long_inputs input l =
    let size : length (take 8194 input) ≡ 8194 = length-take-le 8194 input (omega arith) in
    let same : get_or (take 8194 input) 0 0 ≡ get_or input 0 0 = get_or-take 8194 input 0 0 (omega arith) in
    by_first (take 8194 input) (is_share_count (get_or input 0 0)) (ap is_share_count same) (omega arith)
    ∙ sym (by_first input (is_share_count (get_or input 0 0)) refl l)
