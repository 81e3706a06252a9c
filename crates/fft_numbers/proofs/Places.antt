-- The places of a layer's pairs, for numbers of any kind: words or shares. A pair's four numbers and the pair of each number (`owner`); four
-- numbers put back (`put_own`, `put_others`); and that of pairs one after another each works on its numbers as they were at first, and what it makes
-- of them stays (`whole`): the pairs before it and after it leave them as they are. Rests on Powers and on division by h and by 2h.
use mathlib.Core.Path.{◌≡◌, refl, sym, ap, ap₂, ◌∙◌, fun_ext}
use mathlib.Core.Logic.{◌⊎◌, inl, inr}
use Prim.Native.Nat.{ℕ, zero, suc, ◌+◌, ◌-◌, ◌*◌, ◌/◌, ◌%◌, ◌≤◌, ◌<◌}
use native.Mathlib.Nat.{add-zero, mul_comm, mul_assoc, mul-suc, mul-le-mul_left, mod-lt, mod-eq_of_lt, div-eq_of_lt, div-add-mod, div-lt_iff_lt-mul, le-div_iff_mul-le, mul-add-div, mul-add-mod_self_left, add-mod_right, add-mod_left}
use native.Mathlib.Omega.{arith}
use native.Mathlib.Decide.{dec_lt}
use borrow.Author.Tests.{eq-eqb, ne_eqb}
use Rattle.fft_numbers.specs.Acts.{with}
use Rattle.fft_numbers.specs.Layer.{block_count, place_of}
use Rattle.fft_numbers.proofs.Powers.{Sizes, Placed, pair_placed}

-- a quotient and a rest, read back
quotient : (d q r : ℕ) → r < d → (d * q + r) / d ≡ q
quotient d q r l = mul-add-div {m = d} (omega arith) q r ∙ ap (λ (k : ℕ). q + k) (div-eq_of_lt l) ∙ add-zero q

rest : (d q r : ℕ) → r < d → (d * q + r) % d ≡ r
rest d q r l = mul-add-mod_self_left d q r ∙ mod-eq_of_lt l

-- ---- a pair's four numbers, where u is at place p
pub data Four : Type 0 where
  u_re : Four
  u_im : Four
  v_re : Four
  v_im : Four

abbrev pub index : ℕ → ℕ → ℕ → Four → ℕ
index N h p u_re = p
index N h p u_im = N + p
index N h p v_re = p + h
index N h p v_im = N + (p + h)

pub among : (N h p : ℕ) → p + h < N → (x : Four) → index N h p x < 2 * N
among N h p inside u_re = omega arith
among N h p inside u_im = omega arith
among N h p inside v_re = omega arith
among N h p inside v_im = omega arith

-- the pair that a place belongs to, and a number of 2N
abbrev pair_at : ℕ → ℕ → ℕ
pair_at h p = h * (p / (2 * h)) + p % h

abbrev owner : ℕ → ℕ → ℕ → ℕ
owner N h j = pair_at h (j % N)

-- pair k has its four
module _ (N h k : ℕ) (P : Placed N h k) where
  abbrev p : ℕ
  p = place_of h k

  u_pair : pair_at h p ≡ k
  u_pair =
      let q = k / h in
      let small : k % h < h = P.rest in
      let twice : 2 * h * q ≡ h * (2 * q) = ap (λ (x : ℕ). x * q) (mul_comm 2 h) ∙ mul_assoc h 2 q in
      let block : p / (2 * h) ≡ q = quotient (2 * h) q (k % h) (omega arith) in
      let at : p % h ≡ k % h = ap (λ (x : ℕ). (x + k % h) % h) twice ∙ rest h (2 * q) (k % h) small in
      rw (block, at) (div-add-mod k h)

  -- v is in u's block, and as far from a multiple of h
  v_pair : pair_at h (p + h) ≡ k
  v_pair =
      let q = k / h in
      let small : k % h < h = P.rest in
      let later : p + h ≡ 2 * h * q + (k % h + h) = omega arith in
      let u_block : p / (2 * h) ≡ q = quotient (2 * h) q (k % h) (omega arith) in
      let v_block : (p + h) / (2 * h) ≡ q = ap (λ (x : ℕ). x / (2 * h)) later ∙ quotient (2 * h) q (k % h + h) (omega arith) in
      ap₂ (λ (x y : ℕ). h * x + y) (v_block ∙ sym u_block) (add-mod_right p h) ∙ u_pair

  owned : (x : Four) → owner N h (index N h p x) ≡ k
  owned u_re = ap (pair_at h) (mod-eq_of_lt (omega (arith, P.inside))) ∙ u_pair
  owned u_im = ap (pair_at h) (add-mod_left N p ∙ mod-eq_of_lt (omega (arith, P.inside))) ∙ u_pair
  owned v_re = ap (pair_at h) (mod-eq_of_lt P.inside) ∙ v_pair
  owned v_im = ap (pair_at h) (add-mod_left N (p + h) ∙ mod-eq_of_lt P.inside) ∙ v_pair

-- every place is u's or v's of a pair: in the first half of its block or in the second
module _ (N h : ℕ) (S : Sizes N h) (j : ℕ) (inside : j < N) where
  abbrev pub AtPair : Type 0
  AtPair = (k : ℕ) × (k < N / 2) × ((j ≡ place_of h k) ⊎ (j ≡ place_of h k + h))

  abbrev q : ℕ
  q = j / (2 * h)

  abbrev pub t : ℕ
  t = j % (2 * h)

  in_block : (r : ℕ) → r < h → (h * q + r < N / 2) × (place_of h (h * q + r) ≡ 2 * h * q + r)
  in_block r l =
      let block : q < block_count N h = (div-lt_iff_lt-mul {k = 2 * h} {x = j} {y = block_count N h} (omega arith)).1 (omega (arith, S.filled)) in
      let up : h * suc q ≤ h * block_count N h = mul-le-mul_left h block in
      (omega (arith, S.halves, mul-suc h q, mul_comm h (block_count N h)), ap₂ (λ (x y : ℕ). 2 * h * x + y) (quotient h q r l) (rest h q r l))

  pub at_pair : Dec (t < h) → AtPair
  at_pair (yes l) =
      let B = in_block t l in
      (h * q + t, B.0, inl (omega (arith, B.1, div-add-mod j (2 * h))))
  at_pair (no l) =
      let less : t < 2 * h = mod-lt j (omega (arith, S.some)) in
      let B = in_block (t - h) (omega arith) in
      (h * q + (t - h), B.0, inr (omega (arith, B.1, div-add-mod j (2 * h))))

-- a later pair's place is greater: the place of pair k is k + h · (k / h)
pub later_place : (h : ℕ) → 1 ≤ h → (k k' : ℕ) → k < k' → place_of h k < place_of h k'
later_place h some k k' l =
    let q = k / h in
    let q' = k' / h in
    let down : q * h ≤ k = omega (arith, mul_comm h q, div-add-mod k h) in
    let less : q ≤ q' = (le-div_iff_mul-le {k = h} {x = q} {y = k'} some).1 (omega arith) in
    let up : h * q ≤ h * q' = mul-le-mul_left h less in
    omega (arith, mul_assoc 2 h q, mul_assoc 2 h q', div-add-mod k h, div-add-mod k' h)

-- ---- one pair
module _ {A : Type 0} (N h p : ℕ) (f : ℕ → A) where
  -- what it makes of its four numbers stands in the same places, all other numbers are as they were
  pub record Turned (to : (Four → A) → Four → A) (g : ℕ → A) : Type 0 where
    pub own : (x : Four) → g (index N h p x) ≡ to (λ y. f (index N h p y)) x
    pub others : (j : ℕ) → ((x : Four) → j ≡ index N h p x → ⊥) → g j ≡ f j

  -- four numbers put back
  module _ (v : Four → A) where
    abbrev pub put : ℕ → A
    put = with (with (with (with f p (v u_re)) (N + p) (v u_im)) (p + h) (v v_re)) (N + (p + h)) (v v_im)

    pub put_own : 0 < h → p + h < N → (x : Four) → put (index N h p x) ≡ v x
    put_own some inside u_re = rw (ne_eqb p (N + (p + h)) (λ e. omega arith), ne_eqb p (p + h) (λ e. omega arith), ne_eqb p (N + p) (λ e. omega arith), eq-eqb p p refl)
    put_own some inside u_im = rw (ne_eqb (N + p) (N + (p + h)) (λ e. omega arith), ne_eqb (N + p) (p + h) (λ e. omega arith), eq-eqb (N + p) (N + p) refl)
    put_own some inside v_re = rw (ne_eqb (p + h) (N + (p + h)) (λ e. omega arith), eq-eqb (p + h) (p + h) refl)
    put_own some inside v_im = rw (eq-eqb (N + (p + h)) (N + (p + h)) refl)

    pub put_others : (j : ℕ) → ((x : Four) → j ≡ index N h p x → ⊥) → put j ≡ f j
    put_others j a = rw (ne_eqb j (N + (p + h)) (a v_im), ne_eqb j (p + h) (a v_re), ne_eqb j (N + p) (a u_im), ne_eqb j p (a u_re))

-- ---- pairs one after another: number j after the first k of them is `lent k j`, `first j` before them all
module _ {A : Type 0} (N h : ℕ) (S : Sizes N h) (to : ℕ → (Four → A) → Four → A) (lent : ℕ → ℕ → A) (first : ℕ → A)
    (begun : (j : ℕ) → j < 2 * N → lent 0 j ≡ first j) (turned : (k : ℕ) → k < N / 2 → Turned N h (place_of h k) (lent k) (to k) (lent (suc k))) where
  -- of a number of another pair
  as_it_was : (k : ℕ) → k < N / 2 → (j : ℕ) → (owner N h j ≡ k → ⊥) → lent (suc k) j ≡ lent k j
  as_it_was k less j a = (turned k less).others j (λ x e. a (ap (owner N h) e ∙ owned N h k (pair_placed N h k S less) x))

  -- up to its own pair a number is as at first; from then on, as its own pair left it
  before : (j k : ℕ) → k ≤ N / 2 → k ≤ owner N h j → lent k j ≡ lent 0 j
  before j zero few l = refl
  before j (suc k) few l = as_it_was k few j (λ e. omega arith) ∙ before j k (omega arith) (omega arith)

  since : (j k : ℕ) → k ≤ N / 2 → owner N h j < k → lent k j ≡ lent (suc (owner N h j)) j
  since j zero few l = absurd (omega arith)
  since j (suc k) few l = by (dec_lt (owner N h j) k) (since j k (omega arith))
    where
      by : Dec (owner N h j < k) → (owner N h j < k → lent k j ≡ lent (suc (owner N h j)) j) → lent (suc k) j ≡ lent (suc (owner N h j)) j
      by (yes m) again = as_it_was k few j (λ e. omega arith) ∙ again m
      by (no m) again = let own : k ≡ owner N h j = omega arith in ap (λ (m : ℕ). lent (suc m) j) own

  pub whole : (k : ℕ) → k < N / 2 → (x : Four) → lent (N / 2) (index N h (place_of h k) x) ≡ to k (λ y. first (index N h (place_of h k) y)) x
  whole k less x =
      let P = pair_placed N h k S less in
      let of = owned N h k P in
      let at = index N h (place_of h k) in
      since (at x) (N / 2) (omega arith) (omega (arith, of x)) ∙ ap (λ (m : ℕ). lent (suc m) (at x)) (of x) ∙ (turned k less).own x
      ∙ ap (λ (f : Four → A). to k f x)
      (fun_ext (λ (y : Four). before (at y) k (omega arith) (omega (arith, of y)) ∙ begun (at y) (among N h (place_of h k) P.inside y)))
