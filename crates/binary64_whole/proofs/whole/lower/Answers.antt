-- `binary64_whole::whole::lower` meets its contract.
use Rattle.std.proofs.Common.{ℕ, ◌+◌, ◌-◌, ◌%◌, ◌^◌, ap, ◌∙◌}
use lib.Bits.{bit_and}
use Rattle.binary64.specs.Number.{sign}
use Rattle.binary64_whole.specs.inner.Steps.{lowered_by}
use Rattle.binary64_whole.proofs.Selected.{by_sign}
use Rattle.binary64_whole.proofs.whole.lower.Goals as goal

pub returns : goal.returns
unfolding lowered_by
returns c =
    let raised = c.kept.ensures ∙ by_sign (sign c.args.a) c.sign_bit.result c.args.f c.sign_bit.ensures in
    c.cleared.ensures ∙ ap (λ (t : ℕ). t - bit_and t c.args.f) (ap (λ (x : ℕ). (c.args.a + x) % 2 ^ 64) raised)
