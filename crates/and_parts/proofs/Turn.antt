-- What one turn of the loop over shares does. Rests on masking's Rising.
use mathlib.Core.Path.{◌≡◌, refl, ap, ◌∙◌}
use mathlib.Core.List.{List, [], ◌∷◌, map}
use Prim.Native.Nat.{ℕ, ◌+◌, ◌-◌, ◌<◌}
use native.Mathlib.Nat.{mul-le-mul_right}
use native.Mathlib.Omega.{arith}
use lib.ListN.{get_or, set, drop}
use Rattle.masking.specs.Translation.{up_from}
use Rattle.masking.specs.Machine.{takes, exec_step, exec_steps, rands_of}
use Rattle.masking.proofs.emitted.Rising.{rising}
use Rattle.and_parts.specs.declared.once.Place.{Place}
use Rattle.and_parts.specs.declared.once.Op.{Op}
use Rattle.and_parts.specs.declared.once.Op.TheVariants as op
use Rattle.and_parts.specs.inner.Effects.{InCells, at, once_step, value_of}

-- ---- the shares of a place
pub at_first : (p : Place) → p.base ≡ at p 0
at_first p = omega (arith, native.Mathlib.Nat.zero-mul p.stride)

pub at_inside : (p : Place) → InCells p → (i : ℕ) → i < 8 → at p i < 512
at_inside p h i l = omega (arith, mul-le-mul_right {m = i} {n = 7} p.stride (omega arith))

-- ---- one share's step
module _ (d a b : ℕ → ℕ) (i : ℕ) where
  pub once_takes : (o : Op) → takes (once_step o d a b i) ≡ 0
  once_takes op.Xor = refl
  once_takes (op.Shl k) = refl

  once_exec : (o : Op) (tape cells : List ℕ) → exec_step (once_step o d a b i) tape cells ≡ set cells (d i) (value_of o (get_or cells (a i) 0) (get_or cells (b i) 0))
  unfolding exec_step
  once_exec op.Xor tape cells = refl
  once_exec (op.Shl k) tape cells = refl

module _ (o : Op) (d a b : ℕ → ℕ) where
  -- steps without tape words
  pub once_rands : (is : List ℕ) → rands_of (map (once_step o d a b) is) ≡ 0
  once_rands [] = refl
  once_rands (i ∷ is) = omega (arith, once_takes d a b i o, once_rands is)

  -- one turn of the loop
  pub once_turn : (i n : ℕ) → i < n → (tape cells : List ℕ)
      → exec_steps (map (once_step o d a b) (up_from i (n - i))) tape cells
      ≡ exec_steps (map (once_step o d a b) (up_from (i + 1) (n - (i + 1)))) tape (set cells (d i) (value_of o (get_or cells (a i) 0) (get_or cells (b i) 0)))
  once_turn i n h tape cells =
      ap (λ (is : List ℕ). exec_steps (map (once_step o d a b) is) tape cells) (rising i n h)
      ∙ ap (λ (k : ℕ). exec_steps (map (once_step o d a b) (up_from (i + 1) (n - (i + 1)))) (drop k tape) (exec_step (once_step o d a b i) tape cells)) (once_takes d a b i o)
      ∙ ap (exec_steps (map (once_step o d a b) (up_from (i + 1) (n - (i + 1)))) tape) (once_exec d a b i o tape cells)
