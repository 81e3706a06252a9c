-- Number j of a layer's 2N on n shares lies in their words, of which there are few. Rests on fft_slots' Holding and Powers.
use mathlib.Core.Path.{◌≡◌}
use mathlib.Core.List.{List}
use Prim.Native.Nat.{ℕ, ◌*◌, ◌≤◌, ◌<◌}
use native.Mathlib.Omega.{arith}
use lib.ListN.{length}
use Rattle.fft_numbers.proofs.Powers.{numbers_most}
use Rattle.fft_copies.specs.inner.Inner.{Inside}
use Rattle.fft_slots.proofs.Holding.{row_inside}

pub lies : (n N j : ℕ) (numbers : List ℕ) → n ≤ 8 → N ≤ 1024 → length numbers ≡ 2 * N * n → j < 2 * N → Inside n (2 * N) j (length numbers) × (length numbers ≤ 65536)
lies n N j numbers few most size h =
    (λ i l. rw size (row_inside n (2 * N) j h numbers i l), omega (arith, size, numbers_most N n most few))
