-- A test computed for every number below a bound holds of each.
use mathlib.Core.Bool.{Bool, true, ◌&&◌}
use mathlib.Core.Logic.{inl, inr}
use mathlib.Core.Path.{sym, subst}
use Prim.Native.Nat.{ℕ, zero, suc, ◌<◌}
use native.Mathlib.Nat.{eq-or-lt_of_le, le_of_suc-le-suc}
use native.Mathlib.Omega.{arith}
use lib.Dec.{T}
use Rattle.word.proofs.Ranges.{both}

abbrev pub every : ℕ → (ℕ → Bool) → Bool
every zero test = true
every (suc n) test = test n && every n test

pub each : (n : ℕ) (test : ℕ → Bool) → T (every n test) → (i : ℕ) → i < n → T (test i)
each zero test h i l = absurd (omega arith)
each (suc n) test h i l =
    let b = both (test n) (every n test) h in
    elim (eq-or-lt_of_le (le_of_suc-le-suc l)) [
      | inl e ↦ subst (λ (j : ℕ). T (test j)) (sym e) b.0
      | inr s ↦ each n test b.1 i s
    ]
