-- Names that inner contracts cite: nothing here has to be believed.
use Rattle.std.specs.Prelude.{◌≡◌, List, ℕ}
use Rattle.fft_sizes.specs.declared.pair.Pair.{Pair}
use Rattle.fft_numbers.specs.Acts.{Act}
use Rattle.fft_numbers.specs.Layer.{pair_acts, pair_of}

-- the acts of a pair
abbrev pub acts_of : Pair → List Act
acts_of p = pair_acts p.layer.count p.layer.distance p.re p.im p.place

-- pair k of a layer, with its factor
pub record IsPair (N h : ℕ) (factors : List ℕ) (k : ℕ) (p : Pair) : Type 0 where
  pub count : p.layer.count ≡ N
  pub acts : acts_of p ≡ pair_of N h factors k
