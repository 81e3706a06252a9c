-- `fft_slots::put` meets its contract.
use mathlib.Core.Path.{◌≡◌, refl, ap, ◌∙◌}
use mathlib.Core.List.{List}
use Prim.Native.Nat.{ℕ, ◌-◌, ◌≤◌}
use native.Mathlib.Omega.{arith}
use lib.ListN.{set, replicate, length-replicate}
use Rattle.masking.proofs.emitted.Counts.{by_count}
use Rattle.fft_numbers.specs.Acts.{plain_shares}
use Rattle.fft_numbers.specs.Layout.{number_of}
use Rattle.fft_copies.specs.inner.Inner.{written}
use Rattle.fft_slots.specs.inner.Inner.{slot_at, slot_step}
use Rattle.fft_slots.proofs.Holding.{held_written}
use Rattle.fft_slots.proofs.put.Goals as goal

-- the word and zeros, as many as there are shares
plain_number : (w n : ℕ) → 2 ≤ n → n ≤ 8 → number_of n 1 0 (set (replicate 8 0) 0 w) ≡ plain_shares n w
plain_number w = by_count (λ n. number_of n 1 0 (set (replicate 8 0) 0 w) ≡ plain_shares n w) refl refl refl refl refl refl refl

pub returns : goal.returns
returns c s H =
    let e = c.copy.ensures ∙ ap (λ (xs : List ℕ). written slot_step (slot_at c.args.k) 0 xs c.args.work.now) (plain_number c.args.word c.args.n c.requires.0 c.requires.1) in
    rw e (held_written c.args.n c.requires.1 c.args.k c.requires.2 c.args.work.now s H (plain_shares c.args.n c.args.word) (omega (arith, length-replicate {A = ℕ} (c.args.n - 1) 0)))
