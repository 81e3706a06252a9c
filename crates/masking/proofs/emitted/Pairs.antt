-- The pairs of shares i < j: both are shares, and they differ. Assumes nothing.
use mathlib.Core.Path.{◌≡◌}
use mathlib.Core.List.{List, [], ◌∷◌, ◌++◌}
use Prim.Native.Nat.{ℕ, zero, suc, ◌+◌, ◌≤◌, ◌<◌}
use native.Mathlib.Omega.{arith}
use Rattle.masking.specs.Translation.{up_from, shares, Pair, pairs_of, pairs}

abbrev pub Apart : ℕ → List Pair → Type 0
Apart n [] = Unit {0}
Apart n (p ∷ ps) = (p.lo < n) × (p.hi < n) × (p.lo ≡ p.hi → ⊥) × Apart n ps

apart_append : (n : ℕ) (ps qs : List Pair) → Apart n ps → Apart n qs → Apart n (ps ++ qs)
apart_append n [] qs a b = b
apart_append n (p ∷ ps) qs a b = (a.0, a.1, a.2, apart_append n ps qs a.3 b)

apart_of : (n i s c : ℕ) → i < s → s + c ≤ n → Apart n (pairs_of i (up_from s c))
apart_of n i s zero h l = tt
apart_of n i s (suc c) h l = (omega arith, omega arith, λ e. omega arith, apart_of n i (suc s) c (omega arith) (omega arith))

apart_from : (n s c : ℕ) → s + c ≤ n → Apart n (pairs (up_from s c))
apart_from n s zero l = tt
apart_from n s (suc c) l =
    apart_append n (pairs_of s (up_from (suc s) c)) (pairs (up_from (suc s) c)) (apart_of n s (suc s) c (omega arith) (omega arith)) (apart_from n (suc s) c (omega arith))

pub apart_pairs : (n : ℕ) → Apart n (pairs (shares n))
apart_pairs n = apart_from n 0 n (omega arith)
