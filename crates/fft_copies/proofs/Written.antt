-- Shares of a number written `step` apart: one at a time, what is read back, and what stays. Rests on fft_numbers's Laid.
use mathlib.Core.Path.{◌≡◌, refl, sym, ap, subst, ◌∙◌}
use mathlib.Core.List.{List, [], ◌∷◌}
use Prim.Native.Nat.{ℕ, zero, suc, ◌+◌, ◌*◌, ◌≤◌, ◌<◌}
use native.Mathlib.Nat.{add-zero}
use native.Mathlib.Numerals.{add-one}
use native.Mathlib.Omega.{arith}
use lib.ListN.{length, get_or, set, drop, length-set, drop_of_length-le}
use lib.Seq.{drop-cons, get_or-set_same, get_or-set_other}
use Rattle.fft_numbers.specs.Layout.{number_of}
use Rattle.fft_numbers.proofs.Laid.{number_size, number_at}
use Rattle.fft_copies.specs.inner.Inner.{written, Apart}

pub written_size : (step at i : ℕ) (xs l : List ℕ) → length (written step at i xs l) ≡ length l
written_size step at i [] l = refl
written_size step at i (x ∷ xs) l = written_size step at (suc i) xs (set l (step * i + at) x) ∙ length-set l (step * i + at) x

-- one share more
pub written_turn : (step at i : ℕ) (xs l : List ℕ) → i < length xs → written step at i (drop i xs) l ≡ written step at (i + 1) (drop (i + 1) xs) (set l (step * i + at) (get_or xs i 0))
written_turn step at i xs l h =
    ap (λ (ys : List ℕ). written step at i ys l) (drop-cons xs i 0 h)
    ∙ ap (λ (k : ℕ). written step at k (drop k xs) (set l (step * i + at) (get_or xs i 0))) (sym (add-one i))

-- a word that is none of these
pub written_other : (step at i : ℕ) (xs l : List ℕ) (k : ℕ) → ((j : ℕ) → i ≤ j → j < i + length xs → k ≡ step * j + at → ⊥)
    → get_or (written step at i xs l) k 0 ≡ get_or l k 0
written_other step at i [] l k h = refl
written_other step at i (x ∷ xs) l k h =
    written_other step at (suc i) xs (set l (step * i + at) x) k (λ j lo hi. h j (omega arith) (omega arith))
    ∙ get_or-set_other l (step * i + at) k x 0 (h i (omega arith) (omega arith))

-- the words themselves
pub written_at : (step at i : ℕ) (xs l : List ℕ) (j : ℕ) → ((a b : ℕ) → step * a + at ≡ step * b + at → a ≡ b) → j < length xs
    → ((k : ℕ) → k < length xs → step * (i + k) + at < length l) → get_or (written step at i xs l) (step * (i + j) + at) 0 ≡ get_or xs j 0
written_at step at i [] l j inj h inside = absurd (omega arith)
written_at step at i (x ∷ xs) l zero inj h inside =
    ap (λ (k : ℕ). get_or (written step at (suc i) xs (set l (step * i + at) x)) (step * k + at) 0) (add-zero i)
    ∙ written_other step at (suc i) xs (set l (step * i + at) x) (step * i + at) (λ k lo hi e. omega (arith, inj i k e))
    ∙ get_or-set_same l (step * i + at) x 0 (subst (λ (k : ℕ). step * k + at < length l) (add-zero i) (inside 0 (omega arith)))
written_at step at i (x ∷ xs) l (suc j) inj h inside =
    let e : i + suc j ≡ suc i + j = omega arith in
    ap (λ (k : ℕ). get_or (written step at (suc i) xs (set l (step * i + at) x)) (step * k + at) 0) e
    ∙ written_at step at (suc i) xs (set l (step * i + at) x) j inj (omega arith)
    (λ k lk.
    let q : i + suc k ≡ suc i + k = omega arith in
    rw (length-set l (step * i + at) x) (subst (λ (m : ℕ). step * m + at < length l) q (inside (suc k) (omega arith))))

-- ---- a loop that writes a number's shares one by one: i of them are written
module _ (n step at stride place : ℕ) (from to : List ℕ) where
  abbrev X : List ℕ
  X = number_of n step at from

  pub record Copied (i : ℕ) (l : List ℕ) : Type 0 where
    pub few : i ≤ n
    pub size : length l ≡ length to
    pub left : written stride place 0 X to ≡ written stride place i (drop i X) l

  pub none_copied : Copied 0 to
  none_copied = record { few = omega arith; size = refl; left = refl }

  pub one_copied : (i v : ℕ) {l : List ℕ} → Copied i l → i < n → v ≡ get_or from (step * i + at) 0 → Copied (i + 1) (set l (stride * i + place) v)
  one_copied i v {l} c h e =
      record {
        few = omega arith;
        size = length-set l (stride * i + place) v ∙ c.size;
        left =
            c.left ∙ written_turn stride place i X l (omega (arith, number_size n step at from))
            ∙ ap (λ (w : ℕ). written stride place (i + 1) (drop (i + 1) X) (set l (stride * i + place) w)) (number_at n step at from i h ∙ sym e);
      }

  pub all_copied : (i : ℕ) {l : List ℕ} → Copied i l → n ≤ i → l ≡ written stride place 0 X to
  all_copied i {l} c h =
      sym (c.left ∙ ap (λ (xs : List ℕ). written stride place i xs l) (drop_of_length-le X {i = i} (omega (arith, number_size n step at from))))

-- the places that are read hold what they held
abbrev pub Unread : ℕ → ℕ → ℕ → List ℕ → List ℕ → Type 0
Unread n step at l l' = (j : ℕ) → j < n → get_or l' (step * j + at) 0 ≡ get_or l (step * j + at) 0

pub still_unread : (n step at stride place i v : ℕ) (l l' : List ℕ) → Apart n step at stride place → i < n → Unread n step at l l' → Unread n step at l (set l' (stride * i + place) v)
still_unread n step at stride place i v l l' apart h u j lj = get_or-set_other l' (stride * i + place) (step * j + at) v 0 (apart j i lj h) ∙ u j lj
