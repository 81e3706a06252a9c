-- The sum's plan, what b comes to: its aligned value and the sticky bit together are binary64's `aligned`, or b is a zero or too far below a, and neither is more than 1. Rests on Align.
use mathlib.Core.Path.{◌≡◌, sym, ap, ap₂, ◌∙◌}
use mathlib.Core.Logic.{◌⊎◌, inl, inr}
use Prim.Native.Nat.{ℕ, zero, suc, ◌+◌, ◌-◌, ◌*◌, ◌/◌, ◌%◌, ◌^◌, ◌≤◌, ◌<◌, min}
use native.Mathlib.Nat.{mod-eq_of_lt, mod-one, lt_of_lt_of_le, eq-zero-or-pos}
use native.Mathlib.Omega.{arith}
use lib.Pow as Pow
use lib.Pow.{pow_mono}
use Rattle.binary64.specs.Number.{expo, frac}
use Rattle.binary64.specs.inner.Steps.{aligned}
use Rattle.binary64.proofs.Cases.{lt_or_ge}
use Rattle.binary64.proofs.Jam.{jam_is, jam_all}
use Rattle.binary64.proofs.SumCases.{aligned_none, aligned_some}
use Rattle.plans.proofs.Lanes.{is_zero}
use Rattle.plans.proofs.sum.Run.{Aligned}
use Rattle.plans.proofs.sum.Align.{AlignedTo}
use Rattle.plans.proofs.sum.Ridden.{lost}

module _ (a b : ℕ) (r : Aligned) (ord : expo b ≤ expo a) (t : AlignedTo a b r) where
  abbrev W : ℕ
  W = (2 ^ 52 + frac b) * 2 ^ 9

  W_lt : W < 2 ^ 62
  W_lt = omega arith

  abbrev d : ℕ
  d = expo a - expo b

  abbrev st : ℕ
  st = lost r.kept

  st_is : st ≡ 1 - is_zero (W % 2 ^ (d % 64))
  st_is = ap (λ (x : ℕ). 1 - x) t.kept_zero

  st_le : st ≤ 1
  st_le = omega arith

  -- nothing is lost by a shift of no more than one place
  st_none : d ≤ 1 → st ≡ 0
  st_none h = st_is ∙ whole (d % 64) (omega arith)
    where
      whole : (k : ℕ) → k ≤ 1 → 1 - is_zero (W % 2 ^ k) ≡ 0
      whole zero l = ap (λ (x : ℕ). 1 - is_zero x) (mod-one W)
      whole (suc zero) l = let e : W % 2 ≡ 0 = omega arith in ap (λ (x : ℕ). 1 - is_zero x) e
      whole (suc (suc k)) l = absurd (omega arith)

  pub record Far : Type 0 where
    pub none : r.value ≡ 0
    pub sticky : lost r.kept ≤ 1
    pub defined : aligned (expo a - expo b) b ≤ 1
    pub high : 2 ≤ expo a
    pub apart : expo b < expo a

  exact : 0 < expo b → d < 64 → r.value + st ≡ aligned d b
  exact p l =
      ap₂ ◌+◌ (t.used l p) (st_is ∙ ap (λ (k : ℕ). 1 - is_zero (W % 2 ^ k)) (mod-eq_of_lt l) ∙ some (W % 2 ^ d))
      ∙ sym (aligned_some d b (λ e. absurd (omega arith)) ∙ jam_is d W)
    where
      some : (x : ℕ) → 1 - is_zero x ≡ min x 1
      some x = omega arith

  pub told : (r.value + lost r.kept ≡ aligned (expo a - expo b) b) ⊎ Far
  told =
      elim (eq-zero-or-pos (expo b)) [
        | inl e ↦
            let v : r.value ≡ 0 = t.unused (inr e) in
            let z : aligned d b ≡ 0 = aligned_none d b e in
            elim (lt_or_ge (expo a) 2) [
              | inl l ↦ inl (ap₂ ◌+◌ v (st_none (omega arith)) ∙ sym z)
              | inr l ↦ inr (record { none = v; sticky = st_le; defined = omega arith; high = l; apart = omega arith })
            ]
        | inr p ↦
            elim (lt_or_ge d 64) [
              | inl l ↦ inl (exact p l)
              | inr l ↦
                  let z : aligned d b ≡ 1 =
                  aligned_some d b (λ e. absurd (omega arith)) ∙ jam_all d W (lt_of_lt_of_le W_lt (pow_mono {i = 62} {j = d} (omega arith))) ∙ omega arith in
                  inr (record { none = t.unused (inl l); sticky = st_le; defined = omega arith; high = omega arith; apart = omega arith })
            ]
      ]

  -- where b is as large as a significand in its place, nothing was lost
  pub level : 2 ^ 62 ≤ r.value → lost r.kept ≡ 0
  level h =
      elim (lt_or_ge 1 d) [
        | inl l ↦
            elim (eq-zero-or-pos (expo b)) [
              | inl e ↦ let v = t.unused (inr e) in absurd (omega arith)
              | inr p ↦
                  elim (lt_or_ge d 64) [
                    | inl g ↦
                        let q : W / 2 ^ d < 2 ^ 61 = Pow.shr_lt 61 d (lt_of_lt_of_le W_lt (pow_mono {i = 62} {j = 61 + d} (omega arith))) in
                        let v = t.used g p in absurd (omega arith)
                    | inr g ↦ let v = t.unused (inl g) in absurd (omega arith)
                  ]
            ]
        | inr l ↦ st_none l
      ]
