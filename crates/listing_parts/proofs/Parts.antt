-- A listing's lines part by part: how many words fit a part, what it has written and what is still to write of it.
-- Rests on PlanWord's bound for one word's lines.
use mathlib.Core.Path.{◌≡◌, refl, sym, ap, ap₂, ◌∙◌}
use mathlib.Core.Bool.{Bool, true, false, cond}
use mathlib.Core.List.{List, [], ◌∷◌}
use Prim.Native.Nat.{ℕ, suc, ◌+◌, ◌-◌, ◌≤◌, ◌<◌}
use native.Mathlib.Numerals.{add-one}
use native.Mathlib.Omega.{arith}
use lib.Dec.{ltb}
use lib.ListN.{length, take, drop, get_or, length-append, length-drop, drop_of_length-le}
use lib.Seq.{drop-cons}
use borrow.Author.Tests.{lt-ltb, le-ltb, ltb-false}
use borrow.Rule.Slice.PartMut.{put_mid}
use Rattle.checks.proofs.Slices.{part_is, part_back}
use Rattle.listing_lines.specs.Writing.{Wrote, Appends}
use Rattle.listing_parts.specs.Parts.{ListsPart, word_lines, lines_of, word_bytes, fit_count}
use Rattle.listing_lines.proofs.Placed.{Left, start, renamed, part, whole, wrote, appended, appends_long}
use Rattle.listing_parts.proofs.PlanWord.{lines_most}

-- ---- how many words fit

pub fit_none : (n : ℕ) (plan : List ℕ) (room : ℕ) → room < word_bytes → fit_count n plan room ≡ 0
fit_none n [] room h = refl
fit_none n (w ∷ ws) room h = ap (λ (b : Bool). cond b 0 (suc (fit_count n ws (room - length (word_lines n w))))) (lt-ltb room word_bytes h)

fit_one : (n w : ℕ) (ws : List ℕ) (room : ℕ) → word_bytes ≤ room → fit_count n (w ∷ ws) room ≡ suc (fit_count n ws (room - length (word_lines n w)))
fit_one n w ws room h = ap (λ (b : Bool). cond b 0 (suc (fit_count n ws (room - length (word_lines n w))))) (le-ltb room word_bytes h)

-- room for any word's lines is enough for a next word
pub fit_some : (n : ℕ) (plan : List ℕ) (from room : ℕ) → from < length plan → word_bytes ≤ room → 0 < fit_count n (drop from plan) room
fit_some n plan from room l r =
    omega (
      arith,
      ap (λ (p : List ℕ). fit_count n p room) (drop-cons plan from 0 l) ∙ fit_one n (get_or plan from 0) (drop (suc from) plan) room r,
    )

-- no more words than there are
fit_most : (n : ℕ) (plan : List ℕ) (room : ℕ) → fit_count n plan room ≤ length plan
fit_most n [] room = omega arith
fit_most n (w ∷ ws) room = by (ltb room word_bytes) (fit_most n ws (room - length (word_lines n w)))
  where
    by : (b : Bool) → fit_count n ws (room - length (word_lines n w)) ≤ length ws
        → cond b 0 (suc (fit_count n ws (room - length (word_lines n w)))) ≤ suc (length ws)
    by true h = omega arith
    by false h = omega arith

-- the words that a part lists
abbrev fitted : ℕ → List ℕ → ℕ → List ℕ
fitted n plan room = take (fit_count n plan room) plan

pub fitted_most : (n : ℕ) (plan : List ℕ) (room : ℕ) → length (lines_of n (fitted n plan room)) ≤ room
fitted_most n [] room = omega arith
fitted_most n (w ∷ ws) room = by (ltb room word_bytes) refl (fitted_most n ws (room - length (word_lines n w)))
  where
    by : (b : Bool) → ltb room word_bytes ≡ b → length (lines_of n (fitted n ws (room - length (word_lines n w)))) ≤ room - length (word_lines n w)
        → length (lines_of n (take (cond b 0 (suc (fit_count n ws (room - length (word_lines n w))))) (w ∷ ws))) ≤ room
    by true e h = omega arith
    by false e h =
        omega (
          arith,
          ltb-false room word_bytes e,
          lines_most n w,
          length-append (word_lines n w) (lines_of n (fitted n ws (room - length (word_lines n w)))),
        )

-- ---- one part

-- the lines before word `next` stand in the first `at` bytes of a part that began with word `from`
pub record Going (n : ℕ) (plan : List ℕ) (from : ℕ) (out₀ out : List ℕ) (next at : ℕ) : Type 0 where
  pub left : Left (lines_of n (fitted n (drop from plan) (length out₀))) out₀ 0 (lines_of n (fitted n (drop next plan) (length out - at))) out at
  pub moved : from + fit_count n (drop from plan) (length out₀) ≡ next + fit_count n (drop next plan) (length out - at)
  pub within : at ≤ length out

pub going : (n : ℕ) (plan : List ℕ) (from : ℕ) (out : List ℕ) → Going n plan from out out from 0
going n plan from out =
    let e : length out ≡ length out - 0 = omega arith in
    record {
      left = renamed (ap (λ (room : ℕ). lines_of n (fitted n (drop from plan) room)) e) (start _ _ _);
      moved = ap (λ (room : ℕ). from + fit_count n (drop from plan) room) e;
      within = omega arith;
    }

module _ (n : ℕ) (plan : List ℕ) (from : ℕ) (out₀ out : List ℕ) (next at : ℕ) (g : Going n plan from out₀ out next at) where
  -- the next word's lines are written
  pub going_on : next < length plan → word_bytes ≤ length out - at → {out' : List ℕ} {at' : ℕ} → Appends (word_lines n (get_or plan next 0)) out at out' at'
      → Going n plan from out₀ out' (next + 1) at'
  going_on l r {out'} {at'} a =
      let w = get_or plan next 0 in
      let ws = drop (next + 1) plan in
      let d : drop next plan ≡ w ∷ ws = drop-cons plan next 0 l ∙ ap (λ (k : ℕ). w ∷ drop k plan) (sym (add-one next)) in
      let room : length out - at - length (word_lines n w) ≡ length out' - at' = omega (arith, a.ends, appends_long a, g.within) in
      let k : fit_count n (drop next plan) (length out - at) ≡ suc (fit_count n ws (length out' - at')) =
      ap (λ (p : List ℕ). fit_count n p (length out - at)) d ∙ fit_one n w ws (length out - at) r ∙ ap (λ (m : ℕ). suc (fit_count n ws m)) room in
      record {
        left = part (word_lines n w) (lines_of n (fitted n ws (length out' - at'))) (renamed (ap₂ (λ (j : ℕ) (p : List ℕ). lines_of n (take j p)) k d) g.left) a;
        moved = omega (arith, g.moved, k);
        within = omega (arith, a.ends, appends_long a, g.within, lines_most n w);
      }

  -- no further word is
  pub gone : fit_count n (drop next plan) (length out - at) ≡ 0 → ListsPart n plan from out₀ out next at
  gone e =
      record {
        moved = omega (arith, g.moved);
        lines =
            wrote (fitted_most n (drop from plan) (length out₀))
            (whole (renamed (ap (λ (k : ℕ). lines_of n (take k (drop next plan))) e) g.left));
      }

  pub gone_all : length plan ≤ next → ListsPart n plan from out₀ out next at
  gone_all l = gone (ap (λ (p : List ℕ). fit_count n p (length out - at)) (drop_of_length-le plan l))

  pub gone_full : length out - at < word_bytes → ListsPart n plan from out₀ out next at
  gone_full r = gone (fit_none n (drop next plan) (length out - at) r)

-- a text written into the part of a slice from `at` on
pub in_part : (text out : List ℕ) (at : ℕ) {after : List ℕ} {count : ℕ} → at ≤ length out → length text ≤ length out - at
    → Wrote text (take (length out - at) (drop at out)) after count → Appends text out at (put_mid at (length out - at) out after) (at + count)
in_part text out at h l w =
    let a = appended w (omega (arith, ap length (part_is at out h), length-drop at out)) in
    record { written = part_back at out h text a.written; ends = omega (arith, a.ends) }

-- a part ends at the plan's end at the latest, or where it began
pub part_ends : {n : ℕ} {plan : List ℕ} {from : ℕ} {out after : List ℕ} {next bytes : ℕ} → ListsPart n plan from out after next bytes
    → next ≤ from + (length plan - from)
part_ends {n} {plan} {from} {out} p = omega (arith, p.moved, fit_most n (drop from plan) (length out), length-drop from plan)
