-- The riders of the product's first folding in numbers: l1, h and bit 11 of U; l0, b and bit 10 of U; and the parity that tells 1 - b. R = U · 2^52 + f, low = l · 2^11 + 2^10.
-- Rests on End and SmallBits.
use mathlib.Core.Path.{◌≡◌, refl, sym, ap, ap₂, ◌∙◌}
use Prim.Native.Nat.{ℕ, ◌+◌, ◌-◌, ◌*◌, ◌/◌, ◌%◌, ◌^◌, ◌<◌}
use native.Mathlib.Omega.{arith}
use lib.Pow.{high, mod-mod-pow}
use Rattle.bits.specs.Ops.{xor_w, not_w, shl_w, shr_w}
use Rattle.bits.proofs.Shift.{shr_xor}
use Rattle.bits.proofs.Places.{shr_is}
use Rattle.binary64.specs.Number.{expo}
use Rattle.plans.proofs.Fields.{field}
use Rattle.plans.proofs.Shifts.{not_is, xor_parity}
use Rattle.plans.proofs.SmallBits.{doubled, bit_up, bits4, three_bits}
use Rattle.plans.proofs.product.End.{parity_w, first_w, second_w}

abbrev pub low_of : ℕ → ℕ
low_of l = l * 2 ^ 11 + 2 ^ 10

abbrev pub high_of : ℕ → ℕ → ℕ
high_of U f = U * 2 ^ 52 + f

module _ (U f : ℕ) (h_u : U < 4096) (hf : f < 2 ^ 52) where
  -- bit 11 and bit 10 of U
  pub top_bit_is : shr_w (high_of U f) 63 ≡ U / 2048
  top_bit_is = shr_is (high_of U f) 63 ∙ omega arith

  pub next_bit : shr_w (high_of U f) 62 ≡ U / 1024
  next_bit = shr_is (high_of U f) 62 ∙ omega arith

  pub first_is : (l : ℕ) → l < 2 ^ 53 → first_w (low_of l) (high_of U f) ≡ bits4 (l / 2 ^ 52) (f % 2) (U / 2048) 0
  unfolding first_w
  first_is l hl =
      let a : shr_w (low_of l) 63 ≡ l / 2 ^ 52 = shr_is (low_of l) 63 ∙ omega arith in
      let b : shr_w (shl_w (high_of U f) 63) 62 ≡ f % 2 * 2 = doubled (high_of U f) ∙ ap (λ (z : ℕ). z * 2) (omega arith) in
      let u : U / 2048 < 2 = omega arith in
      let c : shl_w (shr_w (high_of U f) 63) 2 ≡ U / 2048 * 4 = bit_up 2 (shr_w (high_of U f) 63) (U / 2048) (omega arith) u top_bit_is in
      ap₂ xor_w (ap₂ xor_w a b) c ∙ three_bits (l / 2 ^ 52) (f % 2) (U / 2048) 0 (omega arith) (omega arith) u (omega arith)

  pub second_is : (l P : ℕ) → l < 2 ^ 53 → P < 2 ^ 64 → second_w (low_of l) (high_of U f) P ≡ bits4 (l / 2 ^ 51 % 2) (1 - P % 2) (U / 1024 % 2) 0
  unfolding second_w
  second_is l P hl h_p =
      let a : shr_w (shl_w (low_of l) 1) 63 ≡ l / 2 ^ 51 % 2 = field (low_of l) 1 62 1 refl ∙ ap (λ (z : ℕ). z % 2) (omega arith) in
      let b : shr_w (shl_w (not_w P) 63) 62 ≡ (1 - P % 2) * 2 = doubled (not_w P) ∙ ap (λ (z : ℕ). z % 2 * 2) (not_is P) ∙ ap (λ (z : ℕ). z * 2) (omega arith) in
      let u : U / 1024 % 2 < 2 = omega arith in
      let t : shr_w (shl_w (high_of U f) 1) 63 ≡ U / 1024 % 2 = field (high_of U f) 1 62 1 refl ∙ ap (λ (z : ℕ). z % 2) (omega arith) in
      let c : shl_w (shr_w (shl_w (high_of U f) 1) 63) 2 ≡ U / 1024 % 2 * 4 = bit_up 2 (shr_w (shl_w (high_of U f) 1) 63) (U / 1024 % 2) (omega arith) u t in
      ap₂ xor_w (ap₂ xor_w a b) c ∙ three_bits (l / 2 ^ 51 % 2) (1 - P % 2) (U / 1024 % 2) 0 (omega arith) (omega arith) u (omega arith)

-- the exponents' parities and R's
pub parity_is : (x y T f b : ℕ) → f < 2 ^ 52 → b < 2 → T ≡ expo x + expo y + 1 + b → parity_w x y (high_of (T % 4096) f) % 2 ≡ 1 - b
unfolding parity_w
parity_is x y T f b hf hb h_t =
    let R = high_of (T % 4096) f in
    ap (λ (z : ℕ). z % 2) (shr_xor (xor_w x y) R 52 ∙ ap (λ (z : ℕ). xor_w z (shr_w R 52)) (shr_xor x y 52))
    ∙ xor_parity (xor_w (shr_w x 52) (shr_w y 52)) (shr_w R 52)
    ∙ ap (λ (z : ℕ). (z + shr_w R 52 % 2) % 2) (xor_parity (shr_w x 52) (shr_w y 52))
    ∙ ap₂ (λ (u v : ℕ). ((u % 2 + v % 2) % 2 + shr_w R 52 % 2) % 2) (shr_is x 52) (shr_is y 52)
    ∙ ap (λ (z : ℕ). ((x / 2 ^ 52 % 2 + y / 2 ^ 52 % 2) % 2 + z % 2) % 2) (shr_is R 52 ∙ high (T % 4096) 52 hf)
    ∙ odd (x / 2 ^ 52) (y / 2 ^ 52) T b hb h_t
  where
    low : (u : ℕ) → u % 2 ≡ u % 2048 % 2
    low u = sym (mod-mod-pow u 10 1)

    wide : (t : ℕ) → t % 4096 % 2 ≡ t % 2
    wide t = mod-mod-pow t 11 1

    two : (i j : ℕ) → (i % 2 + j % 2) % 2 ≡ (i + j) % 2
    two i j = omega arith

    one : (s b : ℕ) → b < 2 → (s % 2 + (s + 1 + b) % 2) % 2 ≡ 1 - b
    one s b h = omega arith

    sum : (i j b : ℕ) → b < 2 → ((i % 2 + j % 2) % 2 + (i + j + 1 + b) % 2) % 2 ≡ 1 - b
    sum i j b h = ap (λ (z : ℕ). (z + (i + j + 1 + b) % 2) % 2) (two i j) ∙ one (i + j) b h

    odd : (u v t b : ℕ) → b < 2 → t ≡ u % 2048 + v % 2048 + 1 + b → ((u % 2 + v % 2) % 2 + t % 4096 % 2) % 2 ≡ 1 - b
    odd u v t b h e =
        ap₂ (λ (i j : ℕ). ((i + j) % 2 + t % 4096 % 2) % 2) (low u) (low v)
        ∙ ap (λ (z : ℕ). ((u % 2048 % 2 + v % 2048 % 2) % 2 + z) % 2) (wide t ∙ ap (λ (z : ℕ). z % 2) e) ∙ sum (u % 2048) (v % 2048) b h
