-- Which numbers a match leaves for its arm without a key (after the keys 0, 1, .. or those from a number on, or between keys), and which run or word of a list stands at them. Assumes
-- nothing.
use mathlib.Core.Path.{◌≡◌, refl, ap, ◌∙◌}
use mathlib.Core.Logic.{◌≢◌}
use mathlib.Core.List.{List, [], ◌∷◌, ◌++◌, map}
use Prim.Native.Nat.{ℕ, zero, suc, ◌+◌, ◌-◌, ◌≤◌, ◌<◌}
use native.Mathlib.Omega.{arith}
use lib.ListN.{length, get_or, replicate}
use Rattle.masking.specs.Translation.{up_from}

-- none of the first m numbers
abbrev pub Rest : ℕ → ℕ → Type 0
Rest zero k = Unit {0}
Rest (suc m) k = Rest m k × (k ≢ m)

from : (m k : ℕ) → Rest m k → m ≤ k
from zero k h = omega arith
from (suc m) k h = omega (arith, from m k h.0, h.1)

beyond : (rs : List (List ℕ)) (d : List ℕ) (k : ℕ) → length rs ≤ k → get_or rs k d ≡ d
beyond [] d k h = refl
beyond (r ∷ rs) d zero h = absurd (omega arith)
beyond (r ∷ rs) d (suc k) h = beyond rs d k (omega arith)

pub past : (rs : List (List ℕ)) (d : List ℕ) (k : ℕ) → Rest (length rs) k → get_or rs k d ≡ d
past rs d k h = beyond rs d k (from (length rs) k h)

-- the last arm where the number is known to be small
pub only : (m k : ℕ) → Rest m k → k < suc m → k ≡ m
only m k h l = omega (arith, from m k h)

-- ---- the arm without a key of its own after keys from a number on, and where keys stand on both sides of its numbers

-- m numbers from s on, the largest first
abbrev pub down : ℕ → ℕ → List ℕ
down s zero = []
down s (suc m) = (s + m) ∷ down s m

-- none of a list's numbers, the last first
abbrev pub NoneOf : List ℕ → ℕ → Type 0
NoneOf [] k = Unit {0}
NoneOf (m ∷ ms) k = NoneOf ms k × (k ≢ m)

-- past keys in a row
pub reached : (s m k : ℕ) → NoneOf (down s m) k → s ≤ k → s + m ≤ k
reached s zero k h l = omega arith
reached s (suc m) k h l = omega (arith, reached s m k h.0 l, h.1)

pub past_from : (rs : List (List ℕ)) (d : List ℕ) (s m k : ℕ) → length rs ≡ s + m → NoneOf (down s m) k → s ≤ k → get_or rs k d ≡ d
past_from rs d s m k e h l = beyond rs d k (omega (arith, e, reached s m k h l))

below : (s m : ℕ) (ms : List ℕ) (k : ℕ) → NoneOf (down s m ++ ms) k → k < s + m → (k < s) × NoneOf ms k
below s zero ms k h l = (omega arith, h)
below s (suc m) ms k h l = below s m ms k h.0 (omega (arith, h.1))

pub between : (f s m k : ℕ) → NoneOf (down s m ++ down 0 f) k → k < s + m → (f ≤ k) × (k < s)
between f s m k h l = let b = below s m (down 0 f) k h l in (omega (arith, reached 0 f k b.1 (omega arith)), b.0)

-- a run among those that differ in a number
pub numbered : (row : ℕ → List ℕ) (rest : List (List ℕ)) (d : List ℕ) (bs : List (List ℕ)) (a m k : ℕ) → length bs ≤ k → k < length bs + m → get_or (bs ++ (map row (up_from a m) ++ rest)) k d ≡ row (a + (k - length bs))
numbered row rest d [] a zero k h l = absurd (omega arith)
numbered row rest d [] a (suc m) zero h l = ap row (omega arith)
numbered row rest d [] a (suc m) (suc k) h l = numbered row rest d [] (suc a) m k (omega arith) (omega arith) ∙ ap row (omega arith)
numbered row rest d (b ∷ bs) a m zero h l = absurd (omega arith)
numbered row rest d (b ∷ bs) a m (suc k) h l = numbered row rest d bs a m k (omega arith) (omega arith) ∙ ap row (omega arith)

-- a word among equal ones
pub equal : (w : ℕ) (rest : List ℕ) (m k : ℕ) → k < m → get_or (replicate m w ++ rest) k 0 ≡ w
equal w rest zero k l = absurd (omega arith)
equal w rest (suc m) zero l = refl
equal w rest (suc m) (suc k) l = equal w rest m k (omega arith)
