-- The sizes of a layer: N and h are powers of two (`powers`, and `every`, that all such are taken), so blocks of 2h fill N; where a pair and its block's factor lie.
use mathlib.Core.Path.{◌≡◌, refl, sym, ap, ◌∙◌}
use mathlib.Core.Bool.{Bool, true, false, ◌&&◌, ◌||◌}
use mathlib.Core.List.{List, ◌∷◌, map}
use mathlib.Core.Logic.{◌⊎◌, inl, inr, ⊎_elim}
use Prim.Native.Nat.{ℕ, zero, suc, ◌+◌, ◌-◌, ◌*◌, ◌/◌, ◌%◌, ◌^◌, ◌≤◌, ◌<◌}
use native.Mathlib.Nat.{mul_comm, mul_assoc, mul-suc, mod-lt, mul-div_cancel, mul-le-mul, mul-le-mul_left, div-le_self, div-lt_iff_lt-mul, pow-succ'}
use native.Mathlib.Numerals.{add-one}
use native.Mathlib.Omega.{arith}
use native.Mathlib.Decide.{dec_lt}
use lib.Dec.{eqb, leb, ltb}
use lib.Pow.{pow_pos, pow_mono, pow-add}
use borrow.Author.Tests.{eqb-true, leb-true, ltb-true, eq-eqb, le-leb, lt-ltb}
use Rattle.masking.specs.Translation.{up_from}
use Rattle.fft_numbers.specs.Layer.{one_of, is_power_of_two, is_layer, block_count, place_of}

-- a test of two parts, both of which hold
pub both : (p q : Bool) → p && q ≡ true → (p ≡ true) × (q ≡ true)
both true q e = (refl, e)
both false q e = let z : false ≡ true = e in (z, cc)

either : (p q : Bool) → p || q ≡ true → (p ≡ true) ⊎ (q ≡ true)
either true q e = inl refl
either false q e = inr e

-- a test of which the first part is known
pub go_on : {p q r : Bool} → p ≡ true → r ≡ q → r ≡ p && q
go_on {p} {q} e h = h ∙ sym (ap (λ (b : Bool). b && q) e)

-- a power of two, of which exponent
pub a_power : (k s c : ℕ) → one_of k (map (λ e. 2 ^ e) (up_from s c)) ≡ true → (e : ℕ) × (k ≡ 2 ^ e) × (e < s + c)
a_power k s zero h = let z : false ≡ true = h in (0, cc, absurd (cc))
a_power k s (suc c) h =
    ⊎_elim (λ (q : eqb k (2 ^ s) ≡ true). (s, eqb-true k (2 ^ s) q, omega arith))
    (λ (q : one_of k (map (λ e. 2 ^ e) (up_from (suc s) c)) ≡ true).
    let r = a_power k (suc s) c q in
    (r.0, r.1, omega (arith, r.2)))
    (either (eqb k (2 ^ s)) _ h)

-- the powers from 2^e on
abbrev pub powers_from : ℕ → List ℕ
powers_from e = map (λ e. 2 ^ e) (up_from e (11 - e))

pub powers_turn : (e : ℕ) → e < 11 → powers_from e ≡ 2 ^ e ∷ powers_from (e + 1)
powers_turn e h =
    let more : 11 - e ≡ suc (11 - suc e) = omega arith in
    ap (λ (c : ℕ). map (λ e. 2 ^ e) (up_from e c)) more ∙ ap (λ (k : ℕ). 2 ^ e ∷ powers_from k) (sym (add-one e))

pub record Sizes (N h : ℕ) : Type 0 where
  pub least : 2 ≤ N
  pub most : N ≤ 1024
  pub some : 1 ≤ h
  pub below : h < N
  pub half : 2 * (N / 2) ≡ N
  pub filled : block_count N h * (2 * h) ≡ N
  pub halves : block_count N h * h ≡ N / 2

of_powers : (N h a b : ℕ) → N ≡ 2 ^ a → h ≡ 2 ^ b → 2 ≤ N → N ≤ 1024 → h < N → Sizes N h
of_powers N h a b e_n eh least most below = by (dec_lt b a)
  where
    by : Dec (b < a) → Sizes N h
    by (no q) = let m : 2 ^ a ≤ 2 ^ b = pow_mono (omega arith) in absurd (omega arith)
    by (yes q) =
        let m = 2 ^ (a - suc b) in
        let split : a - suc b + suc b ≡ a = omega arith in
        let e : m * (2 * h) ≡ N =
        ap (λ (x : ℕ). m * (2 * x)) eh ∙ ap (λ (x : ℕ). m * x) (sym (pow-succ' 2 b)) ∙ sym (pow-add 2 (a - suc b) (suc b)) ∙ ap (λ (x : ℕ). 2 ^ x) split ∙ sym e_n in
        let some : 0 < h = rw eh (pow_pos b) in
        let q : block_count N h ≡ m = ap (λ (x : ℕ). x / (2 * h)) (sym e) ∙ mul-div_cancel m {n = 2 * h} (omega arith) in
        let t : m * (2 * h) ≡ 2 * (m * h) = sym (mul_assoc m 2 h) ∙ ap (λ (x : ℕ). x * h) (mul_comm m 2) ∙ mul_assoc 2 m h in
        let half : N / 2 ≡ m * h = omega arith in
        record {
          least = least;
          most = most;
          some = some;
          below = below;
          half = omega arith;
          filled = ap (λ (x : ℕ). x * (2 * h)) q ∙ e;
          halves = ap (λ (x : ℕ). x * h) q ∙ sym half;
        }

pub powers : (N h : ℕ) → is_layer N h ≡ true → (a : ℕ) × (b : ℕ) × (N ≡ 2 ^ a) × (h ≡ 2 ^ b) × (2 ≤ N) × (N ≤ 1024) × (h < N)
unfolding is_layer
powers N h e =
    let p = both (is_power_of_two N) _ e in
    let q = both (is_power_of_two h) _ p.1 in
    let l = both (leb 2 N) _ q.1 in
    let m = both (leb N 1024) (ltb h N) l.1 in
    let a = a_power N 0 11 p.0 in
    let b = a_power h 0 11 q.0 in
    (a.0, b.0, a.1, b.1, leb-true 2 N l.0, leb-true N 1024 m.0, ltb-true h N m.1)

pub sizes : (N h : ℕ) → is_layer N h ≡ true → Sizes N h
sizes N h e = let p = powers N h e in of_powers N h p.0 p.1 p.2 p.3 p.4 p.5 p.6

-- each power among the list is found
found : (e s c : ℕ) → s ≤ e → e < s + c → one_of (2 ^ e) (map (λ e. 2 ^ e) (up_from s c)) ≡ true
found e s zero lo hi = absurd (omega arith)
found e s (suc c) lo hi =
    ⊎_elim (λ (q : s ≡ e). rw (eq-eqb (2 ^ e) (2 ^ s) (ap (λ (x : ℕ). 2 ^ x) (sym q))))
    (λ (q : suc s ≤ e). or_true (eqb (2 ^ e) (2 ^ s)) (found e (suc s) c q (omega arith))) (from (dec_lt s e))
  where
    from : Dec (s < e) → (s ≡ e) ⊎ (suc s ≤ e)
    from (yes q) = inr (omega arith)
    from (no q) = inl (omega arith)

    or_true : (p : Bool) {q : Bool} → q ≡ true → p || q ≡ true
    or_true true h = refl
    or_true false h = h

-- 2^e up to 1,024 is a power of two
pub power_found : (e : ℕ) → 2 ^ e ≤ 1024 → is_power_of_two (2 ^ e) ≡ true
power_found e h = by (dec_lt e 11)
  where
    by : Dec (e < 11) → is_power_of_two (2 ^ e) ≡ true
    by (yes q) = found e 0 11 (omega arith) (omega arith)
    by (no q) = let m : 2 ^ 11 ≤ 2 ^ e = pow_mono {i = 11} (omega arith) in absurd (omega arith)

pub every : (a b : ℕ) → 2 ≤ 2 ^ a → 2 ^ a ≤ 1024 → 2 ^ b < 2 ^ a → is_layer (2 ^ a) (2 ^ b) ≡ true
unfolding is_layer
every a b least most below =
    sym (go_on (power_found a most) (go_on (power_found b (omega arith))
    (go_on (le-leb 2 (2 ^ a) least) (go_on (le-leb (2 ^ a) 1024 most) (sym (lt-ltb (2 ^ b) (2 ^ a) below))))))

-- where pair k lies
pub record Placed (N h k : ℕ) : Type 0 where
  pub inside : place_of h k + h < N
  pub block : k / h < block_count N h
  pub place : place_of h k ≡ 2 * h * (k / h) + k % h
  pub rest : k % h < h
  pub few : block_count N h ≤ N
  pub start : 2 * h * (k / h) ≤ N

pub pair_placed : (N h k : ℕ) → Sizes N h → k < N / 2 → Placed N h k
pair_placed N h k S l =
    let q = k / h in
    let some : 0 < h = S.some in
    let less : k < block_count N h * h = omega (arith, S.halves) in
    let block : q < block_count N h = (div-lt_iff_lt-mul {k = h} {x = k} {y = block_count N h} some).1 less in
    let up : (2 * h) * suc q ≤ (2 * h) * block_count N h = mul-le-mul_left (2 * h) block in
    let down : (2 * h) * suc q ≡ 2 * h * q + 2 * h = mul-suc (2 * h) q in
    let r : k % h < h = mod-lt k some in
    record {
      inside = omega (arith, S.filled, mul_comm (block_count N h) (2 * h));
      block = block;
      place = refl;
      rest = r;
      few = div-le_self N (2 * h);
      start = omega (arith, S.filled, mul_comm (block_count N h) (2 * h));
    }

-- no more lent words on shares than this
pub numbers_most : (N n : ℕ) → N ≤ 1024 → n ≤ 8 → 2 * N * n ≤ 16384
numbers_most N n h_n hn = mul-le-mul {n₁ = 2 * N} {m₁ = n} {n₂ = 2048} {m₂ = 8} (omega arith) hn
