-- ADD's blocks in order: what is left of them after each call of the code that does them. Rests on Named for registers as places, and on and_parts' Running for steps
-- done in parts.
use mathlib.Core.Path.{◌∙◌}
use mathlib.Core.List.{List, [], ◌∷◌, ◌++◌, map}
use Prim.Native.Nat.{ℕ}
use native.Mathlib.Omega.{arith}
use Rattle.word.specs.declared.step.Step.{Step}
use Rattle.word.specs.declared.step.Step.TheVariants.{Xor, And, Shl}
use Rattle.masking.specs.Translation.{scratch, blocks, block, shares, adding, r_h, r_g, r_p, r_t, rounds}
use Rattle.and_parts.specs.declared.once.Op.{Op}
use Rattle.and_parts.specs.declared.once.Op.TheVariants as op
use Rattle.and_parts.specs.declared.once.Place.{Place}
use Rattle.and_parts.specs.inner.Effects.{Enough, Ran, Still, at, once_step}
use Rattle.and_parts.proofs.Running.{Left, start, part, enough, whole, blocks_part, blocks_enough}
use Rattle.and_many.specs.inner.Asked.{Asked, and_of}
use Rattle.gates.specs.inner.PlanWords.{Adds}
use Rattle.gates.proofs.Named.{Named, helper_at, helper_named, plan_named, plan_placed, once_ran, and_ran, and_asked}

-- the helper registers
H : Named (helper_at 0) r_h
H = helper_named 0 (omega arith)

G : Named (helper_at 1) r_g
G = helper_named 1 (omega arith)

P : Named (helper_at 2) r_p
P = helper_named 2 (omega arith)

T : Named (helper_at 3) r_t
T = helper_named 3 (omega arith)

-- a step on each share of three places
abbrev Each : Op → ℕ → Place → Place → Place → List ℕ → List ℕ → Type 0
Each o n p q r = Still (map (once_step o (at p) (at q) (at r)) (shares n))

module _ {n : ℕ} {d a b : Place} {tape : List ℕ} {t : ℕ} {cells : List ℕ} (h : Adds n d a b tape t cells) where
  -- all of ADD's blocks; those behind the rounds, from the rounds on, from the copy of H on, and the AND before it
  abbrev all : List Step
  all = blocks scratch n (adding d.base a.base b.base)

  abbrev end : List Step
  end = Shl r_t r_g 1 ∷ Xor d.base r_h r_t ∷ []

  abbrev from_rounds : List Step
  from_rounds = blocks scratch n (rounds ++ end)

  abbrev from_copy : List Step
  from_copy = block scratch n (Shl r_p r_h 0) ++ from_rounds

  abbrev carry : List Step
  carry = block scratch n (And r_g a.base b.base)

  abbrev Rest : List Step → ℕ → List ℕ → Type 0
  Rest = Left tape all t cells

  pub halved : {c : List ℕ} → Each op.Xor n (helper_at 0) a b cells c → Rest (carry ++ from_copy) t c
  unfolding adding
  halved e = part (block scratch n (Xor r_h a.base b.base)) (carry ++ from_copy) (start tape all t cells) (once_ran op.Xor n H (plan_named a h.left) (plan_named b h.right) tape t e)

  module _ {c : List ℕ} {t' : ℕ} where
    pub carry_asked : Rest (carry ++ from_copy) t' c → Asked n (helper_at 1) a.base b.base 32 tape t' c
    carry_asked l = and_asked G (plan_placed a.base h.left.0) (plan_placed b.base h.right.0) h.least h.most (l.size ∙ h.size) (enough carry from_copy l h.words)

    pub carried : Rest (carry ++ from_copy) t' c → {c' : List ℕ} {t'' : ℕ} → Ran (and_of n (helper_at 1) a.base b.base 32) tape t' c c' t'' → Rest from_copy t'' c'
    carried l r = part carry from_copy l (and_ran n G (plan_placed a.base h.left.0) (plan_placed b.base h.right.0) r)

    pub copied : Rest from_copy t' c → {c' : List ℕ} → Each (op.Shl 0) n (helper_at 2) (helper_at 0) (helper_at 0) c c' → Rest from_rounds t' c'
    copied l e = part (block scratch n (Shl r_p r_h 0)) from_rounds l (once_ran (op.Shl 0) n P H H tape t' e)

    pub rounds_enough : Rest from_rounds t' c → Enough tape t' (blocks scratch n rounds)
    rounds_enough l = blocks_enough n rounds end l h.words

    pub rounded : Rest from_rounds t' c → {c' : List ℕ} {t'' : ℕ} → Ran (blocks scratch n rounds) tape t' c c' t'' → Rest (blocks scratch n end) t'' c'
    rounded l = blocks_part n rounds end l

    pub shifted : Rest (blocks scratch n end) t' c → {c' : List ℕ} → Each (op.Shl 1) n (helper_at 3) (helper_at 1) (helper_at 1) c c' → Rest (blocks scratch n (Xor d.base r_h r_t ∷ [])) t' c'
    shifted l e = part (block scratch n (Shl r_t r_g 1)) (blocks scratch n (Xor d.base r_h r_t ∷ [])) l (once_ran (op.Shl 1) n T G G tape t' e)

    pub summed : Rest (blocks scratch n (Xor d.base r_h r_t ∷ [])) t' c → {c' : List ℕ} → Each op.Xor n d (helper_at 0) (helper_at 3) c c' → Ran all tape t cells c' t'
    summed l e = whole (part (block scratch n (Xor d.base r_h r_t)) [] l (once_ran op.Xor n (plan_named d h.to) H T tape t' e))
