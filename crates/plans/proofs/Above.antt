-- Words that have zeros below a place j: XOR, AND and shifts left keep it so. Rests on bits' words as numbers.
use mathlib.Core.Path.{◌≡◌, sym, ap, ap₂, ◌∙◌}
use Prim.Native.Nat.{ℕ, ◌+◌, ◌*◌, ◌/◌, ◌%◌, ◌^◌}
use native.Mathlib.Nat.{add-zero, mul-mod_left}
use native.Mathlib.Omega.{arith}
use lib.Bits as Bits
use lib.Pow as Pow
use lib.Pow.{mod-mod-pow}
use Rattle.bits.specs.Ops.{xor_w, and_w, shl_w}
use Rattle.bits.proofs.Xor.{xor_self}

abbrev pub Above : ℕ → ℕ → Type 0
Above j w = w % 2 ^ j ≡ 0

pub above_is : (j w : ℕ) → Above j w → w ≡ w / 2 ^ j * 2 ^ j
above_is j w h = sym (Pow.split w j) ∙ ap (λ (x : ℕ). w / 2 ^ j * 2 ^ j + x) h ∙ add-zero (w / 2 ^ j * 2 ^ j)

pub xor_low : (j u w p q : ℕ) → u % 2 ^ j ≡ p → w % 2 ^ j ≡ q → xor_w u w % 2 ^ j ≡ xor_w p q
unfolding xor_w
xor_low j u w p q h k = Bits.xor_mod u w j ∙ ap₂ Bits.bit_xor h k

pub above_xor : (j u w : ℕ) → Above j u → Above j w → Above j (xor_w u w)
above_xor j u w h k = xor_low j u w 0 0 h k ∙ xor_self 0

pub above_and : (j u w : ℕ) → Above j w → Above j (and_w u w)
unfolding and_w
above_and j u w h = Bits.and_mod u w j ∙ ap (Bits.bit_and (u % 2 ^ j)) h ∙ Bits.and_comm (u % 2 ^ j) 0

pub above_shl : (i j w k : ℕ) → i + j ≡ 64 → Above j w → Above j (shl_w w k)
unfolding shl_w
above_shl i j w k e h =
    let q : ℕ = w / 2 ^ j in
    ap (λ (n : ℕ). (w * 2 ^ k) % 2 ^ n % 2 ^ j) (sym e) ∙ mod-mod-pow (w * 2 ^ k) i j ∙ ap (λ (x : ℕ). x * 2 ^ k % 2 ^ j) (above_is j w h)
    ∙ ap (λ (x : ℕ). x % 2 ^ j) (swapped q (2 ^ j) (2 ^ k)) ∙ mul-mod_left (q * 2 ^ k) (2 ^ j)
  where
    swapped : (x y z : ℕ) → x * y * z ≡ x * z * y
    swapped x y z = omega arith
