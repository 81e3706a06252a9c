-- The lent words and the numbers in them: numbers laid out read back (`read_back`), and words whose numbers are known are these laid out
-- (`laid_out_is`). Rests on division by the numbers of a share: number j of share i is word S·i + j.
use mathlib.Core.Path.{◌≡◌, sym, ap, ap₂, ◌∙◌}
use mathlib.Core.List.{List, map}
use Prim.Native.Nat.{ℕ, zero, suc, ◌+◌, ◌*◌, ◌/◌, ◌%◌, ◌^◌, ◌≤◌, ◌<◌}
use native.Mathlib.Nat.{zero-add, add-zero, mul_comm, mul-suc, mul-le-mul_left, mod-lt, mod-eq_of_lt, div-eq_of_lt, div-add-mod, div-lt_iff_lt-mul, mul-add-div, mul-add-mod_self_left}
use native.Mathlib.Omega.{arith}
use native.Mathlib.Decide.{dec_lt}
use lib.ListN.{length, get_or, length-map, get_or-eq_default}
use lib.Seq.{ext_get_or}
use lib.Pow.{pow_pos}
use Rattle.masking.specs.Translation.{up_from}
use Rattle.masking.specs.Machine.{Words}
use Rattle.masking.proofs.emitted.Rising.{length_from, get_d_from}
use Rattle.operations.specs.Masked.{Operand}
use Rattle.fft_numbers.specs.Layout.{number_of, as_words}

-- ---- a word for each of c numbers: how many, which, and that they are words
pub mapped_size : (f : ℕ → ℕ) (c : ℕ) → length (map f (up_from 0 c)) ≡ c
mapped_size f c = length-map (up_from 0 c) f ∙ length_from 0 c

pub mapped_at : (f : ℕ → ℕ) (c i : ℕ) → i < c → get_or (map f (up_from 0 c)) i 0 ≡ f i
mapped_at f c i h = get_d_from f 0 c i h ∙ ap f (zero-add i)

pub mapped_words : (f : ℕ → ℕ) (c : ℕ) → ((i : ℕ) → f i < 2 ^ 64) → Words (map f (up_from 0 c))
mapped_words f c h k = by (dec_lt k c)
  where
    by : Dec (k < c) → get_or (map f (up_from 0 c)) k 0 < 2 ^ 64
    by (yes l) = rw (get_d_from f 0 c k l) (h (0 + k))
    by (no l) = rw (get_or-eq_default (map f (up_from 0 c)) 0 {n = k} (omega (arith, length-map (up_from 0 c) f, length_from 0 c))) (pow_pos 64)

pub mapped_same : (f g : ℕ → ℕ) (c : ℕ) → ((i : ℕ) → i < c → f i ≡ g i) → map f (up_from 0 c) ≡ map g (up_from 0 c)
mapped_same f g c h =
    let size = mapped_size f c in
    ext_get_or 0 (map f (up_from 0 c)) (map g (up_from 0 c)) (size ∙ sym (mapped_size g c))
    (λ i li. mapped_at f c i (omega arith) ∙ h i (omega arith) ∙ sym (mapped_at g c i (omega arith)))

-- ---- a number among words
module _ (n S j : ℕ) (words : List ℕ) where
  pub number_size : length (number_of n S j words) ≡ n
  number_size = mapped_size (λ i. get_or words (S * i + j) 0) n

  pub number_at : (i : ℕ) → i < n → get_or (number_of n S j words) i 0 ≡ get_or words (S * i + j) 0
  number_at i h = mapped_at (λ i. get_or words (S * i + j) 0) n i h

  pub number_operand : Words words → Operand n (number_of n S j words)
  number_operand w = record { size = number_size; words = mapped_words (λ i. get_or words (S * i + j) 0) n (λ i. w (S * i + j)) }

-- ---- numbers laid out
module _ (n S : ℕ) (f : ℕ → List ℕ) where
  abbrev word : ℕ → ℕ
  word k = get_or (f (k % S)) (k / S) 0

  pub laid_size : length (as_words n S f) ≡ S * n
  laid_size = mapped_size word (S * n)

  pub laid_at : (i j : ℕ) → i < n → j < S → get_or (as_words n S f) (S * i + j) 0 ≡ get_or (f j) i 0
  laid_at i j li lj =
      let up : S * suc i ≤ S * n = mul-le-mul_left S li in
      let inside : S * i + j < S * n = omega (arith, mul-suc S i) in
      let at : (S * i + j) % S ≡ j = mul-add-mod_self_left S i j ∙ mod-eq_of_lt lj in
      let share : (S * i + j) / S ≡ i = mul-add-div {m = S} (omega arith) i j ∙ ap (λ (k : ℕ). i + k) (div-eq_of_lt lj) ∙ add-zero i in
      mapped_at word (S * n) (S * i + j) inside ∙ ap₂ (λ (j i : ℕ). get_or (f j) i 0) at share

-- a number of n shares reads back as it was laid out
pub read_back : (n S : ℕ) (f : ℕ → List ℕ) (j : ℕ) → j < S → length (f j) ≡ n → number_of n S j (as_words n S f) ≡ f j
read_back n S f j lj e =
    let size = number_size n S j (as_words n S f) in
    ext_get_or 0 (number_of n S j (as_words n S f)) (f j) (size ∙ sym e)
    (λ i li. number_at n S j (as_words n S f) i (omega arith) ∙ laid_at n S f i j (omega arith) lj)

-- words whose S numbers are known are these laid out
pub laid_out_is : (n S : ℕ) (l : List ℕ) (f : ℕ → List ℕ) → length l ≡ S * n → ((j : ℕ) → j < S → number_of n S j l ≡ f j) → l ≡ as_words n S f
laid_out_is n zero l f e h = ext_get_or 0 l (as_words n 0 f) (e ∙ sym (laid_size n 0 f)) (λ k lk. absurd (omega arith))
laid_out_is n (suc s) l f e h =
    let S = suc s in
    ext_get_or 0 l (as_words n S f) (e ∙ sym (laid_size n S f))
    (λ k lk.
    let some : 0 < S = omega arith in
    let lj : k % S < S = mod-lt k some in
    let li : k / S < n = (div-lt_iff_lt-mul {k = S} {x = k} {y = n} some).1 (omega (arith, mul_comm n S)) in
    let place : k ≡ S * (k / S) + k % S = sym (div-add-mod k S) in
    ap (λ (m : ℕ). get_or l m 0) place ∙ sym (number_at n S (k % S) l (k / S) li) ∙ ap (λ (x : List ℕ). get_or x (k / S) 0) (h (k % S) lj)
    ∙ sym (mapped_at (word n S f) (S * n) k (omega arith)))
