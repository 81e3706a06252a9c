-- The lines of one plan word: those of its share words, 4,032 at most, or none where n is no share count. Rests on masking's counts.
use Rattle.std.specs.Prelude.{Option, Some, None}
use mathlib.Core.Path.{◌≡◌, refl, ap, ◌∙◌}
use mathlib.Core.Bool.{Bool, true, false}
use mathlib.Core.List.{List, []}
use Prim.Native.Nat.{ℕ, ◌≤◌}
use native.Mathlib.Omega.{arith}
use lib.ListN.{length, take, length-map}
use lib.Seq.{length-sets}
use Rattle.word.specs.declared.step.Step.{Step}
use Rattle.word.specs.Encoding.{kind_number, in_plan, plan_step, word_of}
use Rattle.word.specs.Layout.{word_max, is_share_count}
use Rattle.checks.specs.Answers.{kept_unless}
use Rattle.word.proofs.Together.{taken_rule}
use Rattle.word.proofs.Small.{share_range, length_le}
use Rattle.masking.specs.Translation.{translated, words_for}
use Rattle.masking.proofs.emitted.Counts.{step_counts}
use Rattle.emission_rows.specs.inner.Written.{Words}
use Rattle.listing_lines.specs.Lines.{hex_lines}
use Rattle.listing_hex.proofs.Hex.{lines_length}
use Rattle.listing_lines.proofs.Placed.{line_taken}
use Rattle.listing_parts.specs.Parts.{word_lines, word_bytes}

pub words_most : (n w : ℕ) → 2 ≤ n → n ≤ 8 → length (words_for n (plan_step w)) ≤ word_max
words_most n w l m = by (plan_step w) refl
  where
    by : (d : Option Step) → plan_step w ≡ d → length (words_for n d) ≤ word_max
    by (Some s) e = omega (arith, length-map (translated n s) word_of, (step_counts n l m s (taken_rule in_plan w s e)).words, length_le n m (kind_number s))
    by None e = omega arith

module _ (n w : ℕ) where
  pub lines_of_is : is_share_count n ≡ true → word_lines n w ≡ hex_lines (words_for n (plan_step w))
  unfolding word_lines
  lines_of_is e = ap (λ (b : Bool). kept_unless b (hex_lines (words_for n (plan_step w))) []) e

  pub lines_none : is_share_count n ≡ false → word_lines n w ≡ []
  unfolding word_lines
  lines_none e = ap (λ (b : Bool). kept_unless b (hex_lines (words_for n (plan_step w))) []) e

  pub lines_most : length (word_lines n w) ≤ word_bytes
  lines_most = by (is_share_count n) refl
    where
      by : (b : Bool) → is_share_count n ≡ b → length (word_lines n w) ≤ word_bytes
      by true e =
          let r = share_range n e in
          omega (arith, ap length (lines_of_is e), lines_length (words_for n (plan_step w)), words_most n w r.0 r.1)
      by false e = omega (arith, ap length (lines_none e))

-- words written at the front of a slice: their number, and the front
module _ {ws out after : List ℕ} {count : ℕ} (p : Words out 0 ws after count) (r : length ws ≤ length out) where
  pub within : count ≤ length after
  within = omega (arith, p.ends, ap length p.written ∙ length-sets out 0 ws)

  pub front : take count after ≡ ws
  front = line_taken r (record { written = p.written; ends = p.ends })
