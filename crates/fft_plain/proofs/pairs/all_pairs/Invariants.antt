-- The invariant of the loop of `pairs.all_pairs`.
use mathlib.Core.Path.{◌≡◌}
use Prim.Native.Nat.{◌/◌}
use Rattle.fft_plain.proofs.Plainly.{PairsDone}
use Rattle.fft_plain.proofs.pairs.all_pairs.Given as goal

abbrev pub invariant-loop-k : goal.invariant-loop-k
invariant-loop-k l = (l.k-end ≡ l.layer.count / 2) × PairsDone l.layer.count l.layer.distance l.initial.numbers l.factors l.k l.numbers
