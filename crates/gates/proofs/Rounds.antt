-- ADD's rounds by their shifts: what is left to do before a round. Rests on masking's Translation, and on and_parts' Running for steps
-- done in parts.
use mathlib.Core.Path.{◌≡◌, ap, ◌∙◌}
use mathlib.Core.Bool.{cond}
use mathlib.Core.List.{List, [], ◌∷◌, ◌++◌}
use Prim.Native.Nat.{ℕ, zero, suc, ◌+◌, ◌≤◌, ◌<◌}
use native.Mathlib.Omega.{arith}
use lib.Dec.{ltb}
use lib.ListN.{drop, drop_of_length-le, get_or}
use lib.Seq.{drop-cons}
use Rattle.word.specs.declared.step.Step.{Step}
use Rattle.word.specs.declared.step.Step.TheVariants.{Xor, And, Shl}
use Rattle.masking.specs.Translation.{scratch, blocks, passed, r_g, r_p, r_t}
use Rattle.and_parts.specs.inner.Effects.{Ran}
use Rattle.and_parts.proofs.Running.{Left, renamed, whole}

-- a round in two parts: up to the XOR, and from it on
abbrev pub begun : ℕ → List Step
begun k = Shl r_t r_g k ∷ And r_t r_p r_t ∷ []

abbrev pub mixed : List Step
mixed = Xor r_g r_g r_t ∷ []

-- "and, except after 32, .."
abbrev pub ended : ℕ → List Step
ended k = cond (ltb k 32) (mixed ++ passed k) mixed

abbrev shifts : List ℕ
shifts = 1 ∷ 2 ∷ 4 ∷ 8 ∷ 16 ∷ 32 ∷ []

-- the shift of round i
abbrev pub shift : ℕ → ℕ
shift i = get_or shifts i 0

abbrev rounds_of : List ℕ → List Step
rounds_of [] = []
rounds_of (k ∷ ks) = begun k ++ (ended k ++ rounds_of ks)

-- from round i on
abbrev pub from : ℕ → List Step
from i = rounds_of (drop i shifts)

pub shift_fits : (i : ℕ) → shift i < 64
shift_fits zero = omega arith
shift_fits (suc zero) = omega arith
shift_fits (suc (suc zero)) = omega arith
shift_fits (suc (suc (suc zero))) = omega arith
shift_fits (suc (suc (suc (suc zero)))) = omega arith
shift_fits (suc (suc (suc (suc (suc zero))))) = omega arith
shift_fits (suc (suc (suc (suc (suc (suc i)))))) = omega arith

pub round : (i : ℕ) → i < 6 → from i ≡ begun (shift i) ++ (ended (shift i) ++ from (i + 1))
round i h =
    let next : suc i ≡ i + 1 = omega arith in
    ap rounds_of (drop-cons shifts i 0 h) ∙ ap (λ (m : ℕ). begun (shift i) ++ (ended (shift i) ++ from m)) next

pub done : (i : ℕ) → 6 ≤ i → from i ≡ []
done i h = ap rounds_of (drop_of_length-le shifts h)

module _ (n : ℕ) {tape : List ℕ} {all : List Step} {t : ℕ} {cells : List ℕ} {t' : ℕ} {cells' : List ℕ} (i : ℕ) (l : Left tape all t cells (blocks scratch n (from i)) t' cells') where
  pub next : i < 6 → Left tape all t cells (blocks scratch n (begun (shift i) ++ (ended (shift i) ++ from (i + 1)))) t' cells'
  next h = renamed (ap (blocks scratch n) (round i h)) l

  pub final : 6 ≤ i → Ran all tape t cells cells' t'
  final h = whole (renamed (ap (blocks scratch n) (done i h)) l)
