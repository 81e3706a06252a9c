-- The invariant of the loop of `all_pairs`.
use mathlib.Core.Path.{◌≡◌}
use Prim.Native.Nat.{◌/◌}
use Rattle.fft_all_pairs.proofs.InRow.{PairsDone}
use Rattle.fft_all_pairs.proofs.all_pairs.Given as goal

abbrev pub invariant-loop-k : goal.invariant-loop-k
invariant-loop-k l =
    (l.k-end ≡ l.layer.count / 2) × PairsDone l.n l.layer.count l.layer.distance l.initial.numbers l.factors l.tape l.k l.t l.numbers l.work
