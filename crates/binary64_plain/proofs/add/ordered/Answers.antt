-- `binary64_plain::add::ordered` meets its contract (`ordered_selected`).
use Rattle.std.proofs.Common.{◌≡◌, ℕ, ◌+◌, ◌-◌, ◌^◌, ◌<◌, ◌≤◌, cond, not, eqb, ◌∙◌, ap₂, arith}
use Rattle.binary64.specs.Number.{frac}
use Rattle.binary64.specs.inner.Steps.{aligned}
use Rattle.binary64_plain.proofs.Shifts.{significand_shl}
use Rattle.binary64_plain.proofs.Selected.{larger, smaller, in_order, ordered_selected}
use Rattle.binary64_plain.proofs.add.ordered.Goals as goal

bounded : (x y W U : ℕ) → x ≡ W → y ≡ U → (U ≤ W) × (W < 2 ^ 63) → (y ≤ x) × (x + y < 2 ^ 64)
bounded x y W U e f h = (omega arith, omega arith)

-- in each: the two numbers to add or subtract, over the operands
pub overflow_add-x : goal.overflow_add-x
overflow_add-x c =
    let first : c.kept-x.result ≡ larger c.args.a c.args.b c.requires = c.kept-x.ensures
    ∙ ap₂ (λ (E x : ℕ). cond (not (eqb E 0)) x 0) c.exponent-e.ensures (significand_shl 10 c.significand.result (frac c.args.a) (omega arith) (omega arith) c.significand.ensures) in
    let second : c.align-y.result ≡ smaller c.args.a c.args.b c.requires = c.align-y.ensures ∙ ap₂ (λ (x y : ℕ). aligned (x - y) c.args.b) c.exponent-e.ensures c.exponent.ensures in
    record { fits = (bounded _ _ _ _ first second (in_order c.args.a c.args.b c.requires)).1 }

pub overflow_sub-x : goal.overflow_sub-x
overflow_sub-x c =
    let first : c.kept-x.result ≡ larger c.args.a c.args.b c.requires = c.kept-x.ensures
    ∙ ap₂ (λ (E x : ℕ). cond (not (eqb E 0)) x 0) c.exponent-e.ensures (significand_shl 10 c.significand.result (frac c.args.a) (omega arith) (omega arith) c.significand.ensures) in
    let second : c.align-y.result ≡ smaller c.args.a c.args.b c.requires = c.align-y.ensures ∙ ap₂ (λ (x y : ℕ). aligned (x - y) c.args.b) c.exponent-e.ensures c.exponent.ensures in
    (bounded _ _ _ _ first second (in_order c.args.a c.args.b c.requires)).0

pub returns : goal.returns
returns c =
    let first : c.kept-x.result ≡ larger c.args.a c.args.b c.requires = c.kept-x.ensures
    ∙ ap₂ (λ (E x : ℕ). cond (not (eqb E 0)) x 0) c.exponent-e.ensures (significand_shl 10 c.significand.result (frac c.args.a) (omega arith) (omega arith) c.significand.ensures) in
    let second : c.align-y.result ≡ smaller c.args.a c.args.b c.requires = c.align-y.ensures ∙ ap₂ (λ (x y : ℕ). aligned (x - y) c.args.b) c.exponent-e.ensures c.exponent.ensures in
    ordered_selected c.args.a c.args.b c.requires c.exponent-e.result _ _ c.sign_bit-s.result c.sign_bit.result c.choose-z.result
    c.kept.result c.choose.result c.encode.result c.exponent-e.ensures first second
    c.sign_bit-s.ensures c.sign_bit.ensures c.choose-z.ensures c.kept.ensures c.choose.ensures c.encode.ensures
