-- Rounding to nearest even in the plans' form: r the first bit dropped, and a zero test of the last bit kept and the bits after r.
-- Rests on binary64's Round, which has the ties.
use mathlib.Core.Path.{◌≡◌, ap, ◌∙◌}
use Prim.Native.Nat.{ℕ, suc, ◌+◌, ◌-◌, ◌*◌, ◌%◌, ◌^◌, ◌<◌, min}
use native.Mathlib.Omega.{arith}
use Rattle.binary64.specs.inner.Steps.{round_ne}
use Rattle.binary64.proofs.Round as Round
use Rattle.plans.proofs.Lanes.{is_zero}

-- N · 2^(k+1) + r · 2^k + s, with s below 2^k, rounded to a multiple of 2^(k+1), with the zero test that a plan has
pub round_tie : (k N r s : ℕ) → r < 2 → s < 2 ^ k → round_ne (N * 2 ^ suc k + (r * 2 ^ k + s)) (suc k) ≡ N + r * (1 - is_zero (N % 2 + s))
round_tie k N r s hr hs = Round.round_tie k N r s hr hs ∙ ap (λ (x : ℕ). N + r * x) (some (N % 2 + s))
  where
    some : (x : ℕ) → min x 1 ≡ 1 - is_zero x
    some x = omega arith
