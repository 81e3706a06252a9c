-- The roundings to a whole number as the code selects them, by the range of E and without a branch, against the cases of the definitions.
-- Rests on binary64's FloorModel and WholeModel, which have the cases.
use Rattle.std.proofs.Common.{◌≡◌, ℕ, zero, suc, ◌+◌, ◌-◌, ◌*◌, ◌/◌, ◌%◌, ◌^◌, ◌<◌, ◌≤◌, min, Bool, cond, not, eqb, ltb, sym, ap, ◌∙◌, ap₂, inl, inr, add-zero, mod-lt, mod-eq_of_lt, one-mul, div-add-mod', arith, pow_pos, pow_mono}
use lib.Arith.{digits_div}
use lib.Bits.{bit_and, and_mask}
use lib.Pow.{ones_split, ones_lt, high}
use Rattle.bits.proofs.Digits.{digit}
use Rattle.binary64.specs.Number.{sign, expo, frac, signed}
use Rattle.binary64.specs.Floor.{floor}
use Rattle.binary64.specs.Truncate.{truncate}
use Rattle.binary64.specs.Nearest.{nearest}
use Rattle.binary64_whole.specs.inner.Steps.{lowered_by, FractionOf, LastWholeOf}
use Rattle.binary64.proofs.Cases.{lt_or_ge, if_some, if_none, by_lt, by_eq}
use Rattle.binary64.proofs.Round.{half_added}
use Rattle.binary64.proofs.FloorModel.{floor_large, floor_zero, floor_small_plus, floor_small_minus, floor_word}
use Rattle.binary64.proofs.WholeModel.{truncate_large, truncate_small, truncate_between, nearest_large, nearest_small, nearest_half, nearest_between}

-- ---- what is taken by the range of E
pub by_range : (a small between r : ℕ) → (expo a < 1023 → small ≡ r) → (1023 ≤ expo a → expo a < 1075 → between ≡ r) → (1075 ≤ expo a → a ≡ r)
    → cond (ltb (expo a) 1023) small (cond (ltb (expo a) 1075) between a) ≡ r
by_range a small between r s b l =
    by_lt (λ (t : Bool). cond t small (cond (ltb (expo a) 1075) between a) ≡ r) (expo a) 1023 s
    (λ g. by_lt (λ (t : Bool). cond t between a ≡ r) (expo a) 1075 (b g) l)

-- ---- the fraction's bits as a mask, and a word without them
pub mask : (E : ℕ) → 1023 ≤ E → E < 1075 → (2 ^ 52 - 1) / 2 ^ ((E + 1) % 64) ≡ 2 ^ (1075 - E) - 1
mask E lo hi =
    let d : (E + 1) % 64 ≡ E - 1023 = omega arith in
    let w : 1075 - E + (E - 1023) ≡ 52 = omega arith in
    ap₂ (λ (n k : ℕ). (2 ^ n - 1) / 2 ^ k) (sym w) d
    ∙ ap (λ (x : ℕ). x / 2 ^ (E - 1023)) (ones_split (1075 - E) (E - 1023))
    ∙ high (2 ^ (1075 - E) - 1) (E - 1023) (ones_lt (E - 1023))

without : (t k : ℕ) → t - bit_and t (2 ^ k - 1) ≡ t / 2 ^ k * 2 ^ k
without t k = ap (λ (x : ℕ). t - x) (and_mask t k) ∙ rest (t / 2 ^ k * 2 ^ k) (t % 2 ^ k) t (div-add-mod' t (2 ^ k))
  where
    rest : (x r t : ℕ) → x + r ≡ t → t - r ≡ x
    rest x r t e = omega arith

-- with a fraction there is room above a
room : (a k : ℕ) → a < 2 ^ 64 → expo a < 1075 → k ≤ 52 → a + 2 ^ k < 2 ^ 64
room a k h l le = let p : 2 ^ k ≤ 2 ^ 52 = pow_mono {i = k} {j = 52} le in omega arith

-- ---- floor
-- raised by p - 1 first, where s is 1: the quotient is rounded up
raised_quotient : (x p s : ℕ) → 0 < p → s < 2 → (x + s * (p - 1)) / p ≡ x / p + s * min (x % p) 1
raised_quotient x p s h l =
    digit (λ s. (x + s * (p - 1)) / p ≡ x / p + s * min (x % p) 1)
    (let e : x + 0 * (p - 1) ≡ x = omega arith in ap (λ (z : ℕ). z / p) e ∙ omega arith)
    (ap (λ (z : ℕ). (x + z) / p) (one-mul (p - 1)) ∙ up (x / p) (x % p) (div-add-mod' x p) (mod-lt x h) ∙ omega arith) s l
  where
    up : (q r : ℕ) → q * p + r ≡ x → r < p → (x + (p - 1)) / p ≡ q + min r 1
    up q zero e l =
        let s : x + (p - 1) ≡ q * p + (p - 1) = omega arith in
        ap (λ (z : ℕ). z / p) s ∙ digits_div q (omega arith) ∙ omega arith
    up q (suc r) e l =
        let s : x + (p - 1) ≡ (q + 1) * p + r = omega arith in
        ap (λ (z : ℕ). z / p) s ∙ digits_div (q + 1) (omega arith) ∙ omega arith

-- a test of the sign bit, left in place
pub by_sign : (s x f : ℕ) → x ≡ s * 2 ^ 63 → cond (not (eqb x 0)) f 0 ≡ cond (eqb s 0) 0 f
by_sign s x f h =
    by_eq (λ (b : Bool). cond (not (eqb x 0)) f 0 ≡ cond b 0 f) s 0 (λ e. if_none x f 0 (omega arith)) (λ n. if_some x f 0 (λ e. n (omega arith)))

raised : (a s f : ℕ) → s < 2 → a + f < 2 ^ 64 → (a + cond (eqb s 0) 0 f) % 2 ^ 64 ≡ a + s * f
raised a s f l h = digit (λ s. (a + cond (eqb s 0) 0 f) % 2 ^ 64 ≡ a + s * f) (mod-eq_of_lt (omega arith) ∙ omega arith) (mod-eq_of_lt h ∙ omega arith) s l

lowered : (a k : ℕ) → a < 2 ^ 64 → a + 2 ^ k < 2 ^ 64 → lowered_by (2 ^ k - 1) a ≡ (a / 2 ^ k + sign a * min (a % 2 ^ k) 1) * 2 ^ k
unfolding lowered_by
lowered a k ha h =
    ap (λ (t : ℕ). t - bit_and t (2 ^ k - 1)) (raised a (sign a) (2 ^ k - 1) (omega arith) (omega arith)) ∙ without (a + sign a * (2 ^ k - 1)) k
    ∙ ap (λ (q : ℕ). q * 2 ^ k) (raised_quotient a (2 ^ k) (sign a) (pow_pos k) (omega arith))

-- below 1: what is above 800FFFFFFFFFFFFF, a negative number that is no zero, becomes −1
floor_below_one : (a : ℕ) → a < 2 ^ 64 → expo a < 1023 → signed (sign a) (cond (ltb 0x800FFFFFFFFFFFFF a) (1023 * 2 ^ 52) 0) ≡ floor a
floor_below_one a ha h =
    by_lt (λ (t : Bool). signed (sign a) (cond t (1023 * 2 ^ 52) 0) ≡ floor a) 0x800FFFFFFFFFFFFF a
    (λ g.
    let s : sign a ≡ 1 = omega arith in
    ap (λ (s : ℕ). signed s (1023 * 2 ^ 52)) s ∙ sym (floor_small_minus a (omega arith) h (λ z. omega arith)))
    (λ l. elim (lt_or_ge (sign a) 1) [
      | inl z ↦ let s : sign a ≡ 0 = omega arith in ap (λ (s : ℕ). signed s 0) s ∙ sym (floor_small_plus a h s)
      | inr g ↦ sym (floor_zero a (omega arith))
    ])

-- over the code's own words: b what stands for a below 1, r the lowered word, v what is taken
pub floor_selected : (a f b r v : ℕ) → a < 2 ^ 64 → FractionOf a f → b ≡ signed (sign a) (cond (ltb 0x800FFFFFFFFFFFFF a) (1023 * 2 ^ 52) 0) → r ≡ lowered_by f a
    → v ≡ cond (ltb (expo a) 1023) b (cond (ltb (expo a) 1075) r a) → v ≡ floor a
floor_selected a f b r v ha hf hb hr hv =
    hv ∙ by_range a b r (floor a) (λ l. hb ∙ floor_below_one a ha l)
    (λ g l.
    let k = 1075 - expo a in
    hr ∙ ap (λ (f : ℕ). lowered_by f a) (hf g l) ∙ lowered a k ha (room a k ha l (omega arith)) ∙ sym (floor_word a g l ha))
    (λ l. sym (floor_large a l))

-- ---- truncation
pub truncate_selected : (a f : ℕ) → FractionOf a f → cond (ltb (expo a) 1023) (sign a * 2 ^ 63) (cond (ltb (expo a) 1075) (a - bit_and a f) a) ≡ truncate a
truncate_selected a f hf =
    by_range a _ _ (truncate a) (λ l. sym (truncate_small a l ∙ add-zero (sign a * 2 ^ 63)))
    (λ g l. ap (λ (f : ℕ). a - bit_and a f) (hf g l) ∙ without a (1075 - expo a) ∙ sym (truncate_between a g l)) (λ l. sym (truncate_large a l))

-- ---- nearest
-- below 1: what is above a half, the bits 3FE · 2^52, becomes 1
nearest_below_one : (a : ℕ) → expo a < 1023 → signed (sign a) (cond (ltb (1022 * 2 ^ 52) (bit_and a (2 ^ 63 - 1))) (1023 * 2 ^ 52) 0) ≡ nearest a
nearest_below_one a h =
    by_lt (λ (t : Bool). signed (sign a) (cond t (1023 * 2 ^ 52) 0) ≡ nearest a) (1022 * 2 ^ 52) (bit_and a (2 ^ 63 - 1))
    (λ g.
    let E : expo a ≡ 1022 = omega (arith, and_mask a 63) in
    let F : 0 < frac a = omega (arith, and_mask a 63) in
    ap (signed (sign a)) (one (frac a) F) ∙ sym (nearest_half a E))
    (λ l. elim (lt_or_ge (expo a) 1022) [
      | inl s ↦ sym (nearest_small a s)
      | inr g ↦
          let E : expo a ≡ 1022 = omega arith in
          let F : frac a ≡ 0 = omega (arith, and_mask a 63) in
          ap (signed (sign a)) (none (frac a) F) ∙ sym (nearest_half a E)
    ])
  where
    one : (F : ℕ) → 0 < F → 1023 * 2 ^ 52 ≡ min F 1 * (1023 * 2 ^ 52)
    one F h = omega arith

    none : (F : ℕ) → F ≡ 0 → 0 ≡ min F 1 * (1023 * 2 ^ 52)
    none F h = omega arith

-- between: half a unit less one and the last bit of the whole part added, modulo 2^64
nearest_added : (a f l : ℕ) → a < 2 ^ 64 → l < 2 → FractionOf a f → LastWholeOf a l → 1023 ≤ expo a → expo a < 1075
    → (a + (f / 2 + l)) % 2 ^ 64 - bit_and ((a + (f / 2 + l)) % 2 ^ 64) f ≡ nearest a
nearest_added a f l ha hl hf hw lo hi = go (1074 - expo a) (omega arith)
  where
    go : (j : ℕ) → 1075 - expo a ≡ suc j → (a + (f / 2 + l)) % 2 ^ 64 - bit_and ((a + (f / 2 + l)) % 2 ^ 64) f ≡ nearest a
    go j e =
        let k : f ≡ 2 ^ suc j - 1 = hf lo hi ∙ ap (λ (z : ℕ). 2 ^ z - 1) e in
        let w : l ≡ a / 2 ^ suc j % 2 = hw lo hi ∙ ap (λ (z : ℕ). a / 2 ^ z % 2) e in
        let half : f / 2 ≡ 2 ^ j - 1 = ap (λ (z : ℕ). z / 2) k ∙ omega arith in
        let fits : a + 2 ^ j < 2 ^ 64 = room a j ha hi (omega arith) in
        let t : (a + (f / 2 + l)) % 2 ^ 64 ≡ a + (2 ^ j - 1 + l) = ap (λ (z : ℕ). (a + (z + l)) % 2 ^ 64) half ∙ mod-eq_of_lt (omega (arith, pow_pos j)) in
        ap₂ (λ (t f : ℕ). t - bit_and t f) t k ∙ without (a + (2 ^ j - 1 + l)) (suc j)
        ∙ ap (λ (n : ℕ). n * 2 ^ suc j)
        (half_added a j l hl ∙ ap (λ (l : ℕ). a / 2 ^ suc j + a / 2 ^ j % 2 * min (l + a % 2 ^ j) 1) w)
        ∙ sym (nearest_between a j lo hi (omega arith))

-- over the code's own words: t the raised word, r that without its fraction, b what stands for it below 1, v what is taken
pub nearest_selected : (a f l t r b v : ℕ) → a < 2 ^ 64 → l < 2 → FractionOf a f → LastWholeOf a l → t ≡ (a + (f / 2 + l)) % 2 ^ 64 → r ≡ t - bit_and t f
    → b ≡ signed (sign a) (cond (ltb (1022 * 2 ^ 52) (bit_and a (2 ^ 63 - 1))) (1023 * 2 ^ 52) 0)
    → v ≡ cond (ltb (expo a) 1023) b (cond (ltb (expo a) 1075) r a) → v ≡ nearest a
nearest_selected a f l t r b v ha hl hf hw ht hr hb hv =
    hv ∙ by_range a b r (nearest a) (λ l. hb ∙ nearest_below_one a l)
    (λ g l. hr ∙ ap (λ (t : ℕ). t - bit_and t f) ht ∙ nearest_added a f _ ha hl hf hw g l) (λ l. sym (nearest_large a l))
