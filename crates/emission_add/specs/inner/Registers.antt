-- Names for the registers and the steps that ADD is laid out in, by masking's definitions, cited by inner functions and their proofs only: nothing
-- here has to be believed.
use Rattle.std.specs.Prelude.{◌≡◌, cond, ℕ, ◌+◌, ◌-◌, ◌/◌, ◌%◌, ◌^◌, ◌<◌, eqb, ltb}
use Rattle.word.specs.declared.step.Step.{Step}
use Rattle.word.specs.declared.step.Step.TheVariants.{Xor, And, Shl}
use Rattle.masking.specs.Translation.{r_h, r_g, r_p, r_t}
use Rattle.emission_rows.specs.declared.Cells.{Cells}

-- where the shares of a register lie, helpers included
abbrev pub cells_for : ℕ → Cells
cells_for r = record { first = cond (ltb r 32) r (r + 256); over = cond (ltb r 32) 32 8 }

-- a plan's register, by where its shares lie
pub record Register (c : Cells) : Type 0 where
  pub low : c.first < 32
  pub share : c.over ≡ 32

-- ADD's steps by their numbers: step j of the round of shift 2^r, and step k of all 33
abbrev pub round_step : ℕ → ℕ → Step
round_step r j =
    cond (eqb j 0) (Shl r_t r_g (2 ^ r))
    (cond (eqb j 1) (And r_t r_p r_t)
    (cond (eqb j 2) (Xor r_g r_g r_t)
    (cond (eqb j 3) (Shl r_t r_p (2 ^ r)) (And r_p r_p r_t))))

unfoldable pub adder_step : ℕ → ℕ → ℕ → ℕ → Step
adder_step d a b k =
    cond (eqb k 0) (Xor r_h a b)
    (cond (eqb k 1) (And r_g a b)
    (cond (eqb k 2) (Shl r_p r_h 0)
    (cond (eqb k 31) (Shl r_t r_g 1)
    (cond (eqb k 32) (Xor d r_h r_t) (round_step ((k - 3) / 5) ((k - 3) % 5))))))
