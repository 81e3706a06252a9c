-- `binary64_whole::whole::fraction` meets its contract (`mask`).
use Rattle.std.proofs.Common.{ℕ, ◌+◌, ◌-◌, ◌/◌, ◌%◌, ◌^◌, ap, ◌∙◌}
use Rattle.binary64.specs.Number.{expo}
use Rattle.binary64_whole.proofs.Selected.{mask}
use Rattle.binary64_whole.proofs.whole.fraction.Goals as goal

pub returns : goal.returns
returns c lo hi = ap (λ (E : ℕ). (2 ^ 52 - 1) / 2 ^ ((E + 1) % 64)) c.exponent.ensures ∙ mask (expo c.args.a) lo hi
