-- `binary64_plain::sum` meets its contract: a mask of 63 ones takes the remainder by 2^63, and the order of the operands does not matter (`sum_comm`).
use Rattle.std.proofs.Common.{◌≡◌, ℕ, ◌-◌, ◌%◌, ◌^◌, ◌≤◌, Bool, cond, ltb, refl, ◌∙◌, ap₂, arith}
use lib.Bits.{bit_and, and_mask}
use Rattle.binary64.specs.Sum as Spec
use Rattle.binary64.proofs.Cases.{by_lt}
use Rattle.binary64.proofs.SumCases.{sum_comm}
use Rattle.binary64_plain.proofs.sum.Goals as goal

-- the larger first
falling : (a b : ℕ) → cond (ltb (bit_and a (2 ^ 63 - 1)) (bit_and b (2 ^ 63 - 1))) a b % 2 ^ 63 ≤ cond (ltb (bit_and a (2 ^ 63 - 1)) (bit_and b (2 ^ 63 - 1))) b a % 2 ^ 63
falling a b =
    by_lt (λ (t : Bool). cond t a b % 2 ^ 63 ≤ cond t b a % 2 ^ 63) (bit_and a (2 ^ 63 - 1)) (bit_and b (2 ^ 63 - 1))
    (λ l. omega (arith, and_mask a 63, and_mask b 63)) (λ l. omega (arith, and_mask a 63, and_mask b 63))

pub ordered-requires : goal.ordered-requires
ordered-requires c = rw (c.choose.ensures, c.choose-2.ensures) (falling c.args.a c.args.b)

pub returns : goal.returns
returns c =
    c.ordered.ensures
    ∙ ap₂ Spec.sum c.choose.ensures c.choose-2.ensures
    ∙ by_lt (λ (t : Bool). Spec.sum (cond t c.args.b c.args.a) (cond t c.args.a c.args.b) ≡ Spec.sum c.args.a c.args.b) (bit_and c.args.a (2 ^ 63 - 1)) (bit_and c.args.b (2 ^ 63 - 1)) (λ l. sum_comm c.args.b c.args.a) (λ l. refl)
