-- Split and join: there and back, and what split's loop keeps. Rests on the ring of words and lib.Seq's `paste`.
use mathlib.Core.Path.{◌≡◌, refl, sym, ap, ap₂, ◌∙◌}
use mathlib.Core.Bool.{Bool, true, false, not}
use mathlib.Core.List.{List, [], ◌∷◌, ◌++◌, append-nil}
use Prim.Native.Nat.{ℕ, suc, ◌+◌, ◌-◌, ◌≤◌, ◌<◌}
use native.Mathlib.Numerals.{add-one}
use native.Mathlib.Omega.{arith}
use lib.Dec.{ltb}
use lib.ListN.{length, get_or, take, set, drop_of_length-le}
use lib.Seq.{length-take-le, take-suc, paste, paste-zero, paste-suc}
use borrow.Author.Tests.{ltb-false, not-false}
use lib.Bits.{bit_xor}
use Rattle.std.specs.List.{fold}
use Rattle.bits.specs.Ops.{xor_w}
use Rattle.bits.proofs.Xor.{xor_assoc, xor_zero, xor_zero_l, xor_cancel_r}
use Rattle.word.specs.Layout.{is_share_count}
use Rattle.checks.specs.Answers.{done, refused, given}
use Rattle.word.proofs.Small.{share_range}
use Rattle.split_join.specs.SplitJoin.{xor_all, split_of, split_answer, join_answer, RoundTrip, CallsRoundTrip, SplitJoins}

pub round_trip : RoundTrip
round_trip word masks = xor_cancel_r word (xor_all masks)

-- from the first word on
fold_from : (a : ℕ) (xs : List ℕ) → fold (λ x y. bit_xor x y) a xs ≡ bit_xor a (xor_all xs)
unfolding xor_w
fold_from a [] = sym (xor_zero a)
fold_from a (x ∷ xs) = fold_from (bit_xor a x) xs ∙ xor_assoc a x (xor_all xs)

pub xor_fold : (xs : List ℕ) → fold (λ x y. bit_xor x y) 0 xs ≡ xor_all xs
unfolding xor_w
xor_fold xs = fold_from 0 xs ∙ xor_zero_l (xor_all xs)

xor_append : (xs ys : List ℕ) → xor_all (xs ++ ys) ≡ xor_w (xor_all xs) (xor_all ys)
xor_append [] ys = sym (xor_zero_l (xor_all ys))
xor_append (x ∷ xs) ys = ap (xor_w x) (xor_append xs ys) ∙ sym (xor_assoc x (xor_all xs) (xor_all ys))

-- one word more
pub xor_next : (xs : List ℕ) (i : ℕ) → i < length xs → xor_w (xor_all (take i xs)) (get_or xs i 0) ≡ xor_all (take (i + 1) xs)
xor_next xs i h =
    ap (xor_w (xor_all (take i xs))) (sym (xor_zero (get_or xs i 0)))
    ∙ sym (ap (λ (k : ℕ). xor_all (take k xs)) (add-one i) ∙ ap xor_all (take-suc xs i 0 h) ∙ xor_append (take i xs) (get_or xs i 0 ∷ []))

-- ---- a split over the output d: i masks are written after share 0, and taken out of the word
pub record Masking (word : ℕ) (tape d : List ℕ) (i : ℕ) (out : List ℕ) (first : ℕ) : Type 0 where
  pub written : out ≡ paste d 1 tape i
  pub taken_out : first ≡ xor_w word (xor_all (take i tape))

pub none_masked : (word : ℕ) (tape d : List ℕ) → Masking word tape d 0 d word
none_masked word tape d = record { written = paste-zero d 1 tape; taken_out = sym (xor_zero word) }

pub one_masked : (word : ℕ) (tape d : List ℕ) (i : ℕ) (out : List ℕ) (first : ℕ) → Masking word tape d i out first → i + 1 < length d → i < length tape
    → Masking word tape d (i + 1) (set out (i + 1) (get_or tape i 0)) (xor_w first (get_or tape i 0))
one_masked word tape d i out first m room h =
    let e : i + 1 ≡ 1 + i = omega arith in
    record {
      written = ap₂ (λ (o : List ℕ) (k : ℕ). set o k (get_or tape i 0)) m.written e ∙ paste-suc d 1 tape i 0 (omega arith) h ∙ ap (paste d 1 tape) (sym (add-one i));
      taken_out = ap (λ (w : ℕ). xor_w w (get_or tape i 0)) m.taken_out ∙ xor_assoc word (xor_all (take i tape)) (get_or tape i 0) ∙ ap (xor_w word) (xor_next tape i h);
    }

pub all_masked : (word : ℕ) (tape d : List ℕ) (i : ℕ) (out : List ℕ) (first : ℕ) → Masking word tape d i out first → length d ≡ i + 1
    → set out 0 first ≡ split_of word (take i tape)
all_masked word tape [] i out first m e = absurd (omega arith)
all_masked word tape (x ∷ d) i out first m e =
    ap₂ (λ (o : List ℕ) (w : ℕ). set o 0 w) m.written m.taken_out
    ∙ ap (λ (r : List ℕ). xor_w word (xor_all (take i tape)) ∷ r)
    (ap (λ (r : List ℕ). take i tape ++ r) (drop_of_length-le (x ∷ d) {i = 1 + i} (omega arith)) ∙ append-nil (take i tape))

-- ---- answers
-- what a split that is done has shown of lengths
pub split_ready : (n tape : ℕ) → (split_answer n tape).number ≡ 0 → (0 < n) × (n ≤ tape + 1)
unfolding split_answer
split_ready n tape = by (is_share_count n) (ltb tape (n - 1)) refl refl
  where
    by : (counted short : Bool) → (is_share_count n) ≡ counted → ltb tape (n - 1) ≡ short
        → (given (not counted) (refused 1) (given short (refused 6) (done 0 0))).number ≡ 0 → (0 < n) × (n ≤ tape + 1)
    by false short p q e = absurd (omega arith)
    by true true p q e = absurd (omega arith)
    by true false p q e =
        let m = (share_range n p).0 in
        let l = ltb-false tape (n - 1) q in
        (omega arith, omega arith)

-- split, where it is not turned down, and join
split_done : (p q : Bool) → (given p (refused 1) (given q (refused 6) (done 0 0))).number ≡ 0 → (p ≡ false) × (q ≡ false)
split_done true q e = absurd (omega arith)
split_done false true e = absurd (omega arith)
split_done false false e = (refl, refl)

split_size : (word : ℕ) (tape : List ℕ) (n : ℕ) → 2 ≤ n → n - 1 ≤ length tape → length (split_of word (take (n - 1) tape)) ≡ n
split_size word tape n two h = ap suc (length-take-le (n - 1) tape h) ∙ omega arith

pub calls_round_trip : CallsRoundTrip
unfolding split_answer join_answer
calls_round_trip word tape out e =
    let n = length out in
    let d = split_done (not (is_share_count n)) (ltb (length tape) (n - 1)) e in
    let r = share_range n (not-false (is_share_count n) d.0) in
    let size : length (split_of word (take (n - 1) tape)) ≡ n = split_size word tape n r.0 (ltb-false (length tape) (n - 1) d.1) in
    rw (d.0, d.1, size, d.0) (round_trip word (take (n - 1) tape))

pub split_joins : SplitJoins
split_joins = record { shares = round_trip; calls = calls_round_trip }
