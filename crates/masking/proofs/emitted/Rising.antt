-- Numbers from one on: the first of them and the rest, none, how many, and the entries of a list over them. Assumes nothing.
use mathlib.Core.Path.{◌≡◌, refl, sym, ap, ◌∙◌}
use mathlib.Core.List.{[], ◌∷◌, map}
use Prim.Native.Nat.{ℕ, zero, suc, ◌+◌, ◌-◌, ◌≤◌, ◌<◌}
use native.Mathlib.Numerals.{add-one}
use native.Mathlib.Omega.{arith}
use lib.ListN.{length, get_or}
use Rattle.masking.specs.Translation.{shares, up_from}

module _ (i n : ℕ) where
  -- the shares from i on: i, then those from i + 1 on
  pub rising : i < n → up_from i (n - i) ≡ i ∷ up_from (i + 1) (n - (i + 1))
  rising h =
      let e : n - i ≡ suc (n - (i + 1)) = omega arith in
      ap (up_from i) e ∙ ap (λ (k : ℕ). i ∷ up_from k (n - (i + 1))) (sym (add-one i))

  -- at the end there are none
  pub risen : n ≤ i → up_from i (n - i) ≡ []
  risen h =
      let e : n - i ≡ 0 = omega arith in
      ap (up_from i) e

pub from_first : (n : ℕ) → shares n ≡ up_from 0 (n - 0)
from_first n =
    let e : n ≡ n - 0 = omega arith in
    ap (up_from 0) e

pub length_from : (s c : ℕ) → length (up_from s c) ≡ c
length_from s zero = refl
length_from s (suc c) = ap suc (length_from (suc s) c)

-- an entry of a list over numbers
pub get_d_from : (f : ℕ → ℕ) (s c i : ℕ) → i < c → get_or (map f (up_from s c)) i 0 ≡ f (s + i)
get_d_from f s zero i h = absurd (omega arith)
get_d_from f s (suc c) zero h = ap f (omega arith)
get_d_from f s (suc c) (suc i) h = get_d_from f (suc s) c i (omega arith) ∙ ap f (omega arith)
