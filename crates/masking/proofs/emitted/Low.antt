-- Every step of a share program names only cells below 352: shares of registers lie in 0..255, AND's scratch in 256..273 and ADD's helpers in
-- 288..351. An instance of Ranges, by Places and Steps.
use mathlib.Core.Path.{◌≡◌}
use mathlib.Core.List.{List, ◌∷◌}
use mathlib.Core.Logic.{⊎_elim}
use Prim.Native.Nat.{ℕ, ◌+◌, ◌*◌, ◌≤◌, ◌<◌}
use native.Mathlib.Omega.{arith}
use Rattle.word.specs.declared.step.Step.{Step}
use Rattle.word.specs.Table.{dest, reads, Each}
use Rattle.masking.specs.Translation.{share_cell, scratch, program}
use Rattle.masking.specs.Foretold.{Accepted}
use Rattle.masking.specs.Machine.{steps_of}
use Rattle.masking.proofs.emitted.Tests.{All}
use Rattle.masking.proofs.emitted.Places.{share_cases}
use Rattle.masking.proofs.emitted.Ranges.{Names, blocks_all}
use Rattle.masking.proofs.emitted.Steps.{plan_steps, plan_within, program_steps}

-- a step whose cells are below 352
abbrev pub Low : Step → Type 0
Low s = Each (λ k. k < 352) (dest s ∷ reads s)

below_352 : (n : ℕ) → n ≤ 8 → Names n 40 scratch (λ k. k < 352)
below_352 n small =
    record {
      share = λ i r l lr.
          ⊎_elim (λ (q : (r < 32) × (share_cell i r ≡ 32 * i + r)). omega arith) (λ (q : (32 ≤ r) × (share_cell i r ≡ 256 + 8 * i + r)). omega arith) (share_cases i r);
      y = λ i l. omega arith;
      z = λ i l. omega arith;
      t = omega arith;
      u = omega arith;
    }

pub program_low : (n : ℕ) (plan : List ℕ) → Accepted n plan → All Low (steps_of (program n plan))
program_low n plan A =
    rw (program_steps n plan A)
    (blocks_all n 40 scratch (λ k. k < 352) (below_352 n A.most) Low (λ s _ e _. e) (plan_steps plan) (plan_within n plan A))
