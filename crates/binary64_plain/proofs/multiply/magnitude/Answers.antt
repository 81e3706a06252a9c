-- `binary64_plain::multiply::magnitude` meets its contract (`product_selected`).
use Rattle.std.proofs.Common.{ℕ, ◌+◌, ◌*◌, cond, not, eqb, leb, ◌∙◌, ap₂, arith}
use Rattle.binary64.specs.inner.Steps.{jam}
use Rattle.binary64_plain.proofs.Selected.{product_selected}
use Rattle.binary64_plain.proofs.multiply.magnitude.Goals as goal

pub returns : goal.returns
returns c =
    let Z = c.jammed_product.ensures ∙ ap₂ (λ (x y : ℕ). jam 51 (x * y)) c.significand.ensures c.significand-2.ensures in
    let bits = c.kept.ensures ∙ ap₂ (λ (E y : ℕ). cond (leb 1015 E) y 0) (ap₂ (λ (x y : ℕ). x + y) c.exponent-ea.ensures c.exponent-eb.ensures) c.encode-bits.ensures in
    c.kept-3.ensures
    ∙ ap₂ (λ (E y : ℕ). cond (not (eqb E 0)) y 0) c.exponent-ea.ensures (c.kept-2.ensures ∙ ap₂ (λ (E y : ℕ). cond (not (eqb E 0)) y 0) c.exponent-eb.ensures bits)
    ∙ product_selected c.args.a c.args.b _ (omega arith) (omega (arith, c.exponent-ea.ensures, c.exponent-eb.ensures)) c.jammed_product.result Z
