-- The product of two numbers of 53 bits by columns of 32: what the four partial products are below, and that the columns make the jammed product.
-- Rests on binary64's Jam.
use Rattle.std.proofs.Common.{◌≡◌, ℕ, ◌+◌, ◌-◌, ◌*◌, ◌/◌, ◌%◌, ◌^◌, ◌<◌, ◌≤◌, min, sym, ap, ◌∙◌, ap₂, le_of_lt, mul-le-mul, arith}
use lib.Bits.{bit_and, and_mask, mask_lt}
use Rattle.binary64.specs.inner.Steps.{jam}
use Rattle.binary64.proofs.Jam.{jam_at}

-- the low and the high half of a factor
abbrev pub low : ℕ → ℕ
low x = bit_and x 0xffff_ffff

abbrev pub high : ℕ → ℕ
high x = x / 2 ^ 32

pub record Bounds (x y : ℕ) : Type 0 where
  pub ll : low x * low y ≤ (2 ^ 32 - 1) * (2 ^ 32 - 1)
  pub hl : high x * low y ≤ 2 ^ 21 * 2 ^ 32
  pub lh : low x * high y ≤ 2 ^ 32 * 2 ^ 21
  pub hh : high x * high y ≤ 2 ^ 21 * 2 ^ 21

pub bounds : (x y : ℕ) → x < 2 ^ 53 → y < 2 ^ 53 → Bounds x y
bounds x y hx hy =
    let lx = mask_lt x 32 in
    let ly = mask_lt y 32 in
    let hx' : high x ≤ 2 ^ 21 = omega arith in
    let hy' : high y ≤ 2 ^ 21 = omega arith in
    let lx' : low x ≤ 2 ^ 32 - 1 = omega arith in
    let ly' : low y ≤ 2 ^ 32 - 1 = omega arith in
    record {
      ll = mul-le-mul lx' ly';
      hl = mul-le-mul hx' (le_of_lt ly);
      lh = mul-le-mul (le_of_lt lx) hy';
      hh = mul-le-mul hx' hy';
    }

-- the columns: the lowest, the two in the middle with the carry, and the highest
abbrev pub middle : ℕ → ℕ → ℕ
middle x y = high x * low y + low x * high y + low x * low y / 2 ^ 32

abbrev pub top : ℕ → ℕ → ℕ
top x y = high x * high y * 2 ^ 13 + middle x y / 2 ^ 19

abbrev pub rest : ℕ → ℕ → ℕ
rest x y = bit_and (middle x y) 0x7_ffff * 2 ^ 32 + bit_and (low x * low y) 0xffff_ffff

halves : (x : ℕ) → x ≡ high x * 2 ^ 32 + low x
halves x = let e = and_mask x 32 in omega arith

-- over plain numbers: x1, x0, y1, y0 the halves, m = x1·y0 + x0·y1 + x0·y0 / 2^32
columns : (x₁ x₀ y₁ y₀ : ℕ)
    → (x₁ * 2 ^ 32 + x₀) * (y₁ * 2 ^ 32 + y₀) ≡ (x₁ * y₁ * 2 ^ 13 + (x₁ * y₀ + x₀ * y₁ + x₀ * y₀ / 2 ^ 32) / 2 ^ 19) * 2 ^ 51 + ((x₁ * y₀ + x₀ * y₁ + x₀ * y₀ / 2 ^ 32) % 2 ^ 19 * 2 ^ 32 + x₀ * y₀ % 2 ^ 32)
columns x₁ x₀ y₁ y₀ =
    let e : (x₁ * 2 ^ 32 + x₀) * (y₁ * 2 ^ 32 + y₀) ≡ x₁ * y₁ * 2 ^ 64 + (x₁ * y₀ + x₀ * y₁) * 2 ^ 32 + x₀ * y₀ = omega arith in
    e ∙ linear (x₁ * y₁) (x₁ * y₀ + x₀ * y₁) (x₀ * y₀)
  where
    linear : (h m l : ℕ) → h * 2 ^ 64 + m * 2 ^ 32 + l ≡ (h * 2 ^ 13 + (m + l / 2 ^ 32) / 2 ^ 19) * 2 ^ 51 + ((m + l / 2 ^ 32) % 2 ^ 19 * 2 ^ 32 + l % 2 ^ 32)
    linear h m l = omega arith

pub jammed : (x y : ℕ) → 2 * top x y + min (rest x y) 1 ≡ jam 51 (x * y)
jammed x y =
    let m = middle x y in
    let l = low x * low y in
    let e : x * y ≡ top x y * 2 ^ 51 + (m % 2 ^ 19 * 2 ^ 32 + l % 2 ^ 32) = ap₂ (λ (u v : ℕ). u * v) (halves x) (halves y) ∙ columns (high x) (low x) (high y) (low y) in
    let r : rest x y ≡ m % 2 ^ 19 * 2 ^ 32 + l % 2 ^ 32 = ap₂ (λ (u v : ℕ). u * 2 ^ 32 + v) (and_mask m 19) (and_mask l 32) in
    ap (λ (z : ℕ). 2 * top x y + min z 1) r ∙ sym (ap (jam 51) e ∙ jam_at 51 (top x y) (m % 2 ^ 19 * 2 ^ 32 + l % 2 ^ 32) (small m l))
  where
    small : (m l : ℕ) → m % 2 ^ 19 * 2 ^ 32 + l % 2 ^ 32 < 2 ^ 51
    small m l = omega arith
