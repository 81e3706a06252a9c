-- What a step makes of its cell: it depends on the cells that the step reads alone, and is a word where these and the tape word are.
-- Rests on the bounds of word operations.
use mathlib.Core.Path.{◌≡◌, refl, ap, ap₂}
use Prim.Native.Nat.{ℕ, ◌^◌, ◌<◌}
use native.Mathlib.Omega.{arith}
use lib.Dec.{T, ltb→lt}
use Rattle.bits.specs.Ops.{xor_w, and_w, not_w, shl_w, shr_w, spread_w, add_w}
use Rattle.bits.proofs.Bound.{xor_lt, and_lt, not_lt, shl_lt, shr_lt, spread_lt, add_lt}
use Rattle.word.specs.declared.step.Step.{Step}
use Rattle.word.specs.declared.step.Step.TheVariants.{Const, Xor, And, Not, Shl, Shr, Spread, Add, Rand}
use Rattle.word.specs.Table.{reads, Each, becomes}
use Rattle.word.specs.Encoding.{number_fits}

pub becomes_reads : (s : Step) (f g : ℕ → ℕ) → Each (λ c. f c ≡ g c) (reads s) → (t : ℕ) → becomes s f t ≡ becomes s g t
becomes_reads (Const d k) f g e t = refl
becomes_reads (Xor d a b) f g e t = ap₂ xor_w e.0 e.1.0
becomes_reads (And d a b) f g e t = ap₂ and_w e.0 e.1.0
becomes_reads (Not d a) f g e t = ap not_w e.0
becomes_reads (Shl d a b) f g e t = ap (λ (x : ℕ). shl_w x b) e.0
becomes_reads (Shr d a b) f g e t = ap (λ (x : ℕ). shr_w x b) e.0
becomes_reads (Spread d a) f g e t = ap spread_w e.0
becomes_reads (Add d a b) f g e t = ap₂ add_w e.0 e.1.0
becomes_reads (Rand d) f g e t = refl

pub becomes_lt : (s : Step) → T (number_fits s) → (c : ℕ → ℕ) (t : ℕ) → ((k : ℕ) → c k < 2 ^ 64) → t < 2 ^ 64 → becomes s c t < 2 ^ 64
becomes_lt (Const d k) h c t w l = omega (arith, ltb→lt k (2 ^ 18) h)
becomes_lt (Xor d a b) h c t w l = xor_lt 64 (c a) (c b) (w a) (w b)
becomes_lt (And d a b) h c t w l = and_lt 64 (c a) (c b) (w a)
becomes_lt (Not d a) h c t w l = not_lt (c a)
becomes_lt (Shl d a b) h c t w l = shl_lt (c a) b
becomes_lt (Shr d a b) h c t w l = shr_lt 64 (c a) b (w a)
becomes_lt (Spread d a) h c t w l = spread_lt (c a)
becomes_lt (Add d a b) h c t w l = add_lt (c a) (c b)
becomes_lt (Rand d) h c t w l = l
