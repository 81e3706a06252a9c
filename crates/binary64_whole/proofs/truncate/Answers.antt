-- `binary64_whole::truncate` meets its contract (`truncate_selected`).
use Rattle.std.proofs.Common.{ℕ, cond, ltb, ◌∙◌, ap₂}
use Rattle.binary64.specs.Number.{expo}
use Rattle.binary64_whole.proofs.Selected.{truncate_selected}
use Rattle.binary64_whole.proofs.truncate.Goals as goal

pub returns : goal.returns
returns c =
    c.by_range.ensures
    ∙ ap₂ (λ (x y : ℕ). cond (ltb (expo c.args.a) 1023) x (cond (ltb (expo c.args.a) 1075) y c.args.a)) c.sign_bit-small.ensures c.cleared-part.ensures
    ∙ truncate_selected c.args.a c.fraction.result c.fraction.ensures
