-- `binary64_plain::add::align` meets its contract: a zero is left out, and nine places up no bit of a significand is lost.
use Rattle.std.proofs.Common.{◌≡◌, ℕ, ◌+◌, ◌*◌, ◌^◌, Bool, cond, not, eqb, sym, ap, ◌∙◌, ap₂, arith}
use Rattle.binary64.specs.Number.{expo, frac}
use Rattle.binary64.specs.inner.Steps.{jam, aligned}
use Rattle.binary64.proofs.Cases.{by_eq}
use Rattle.binary64_plain.proofs.Shifts.{significand_shl}
use Rattle.binary64.proofs.Jam.{jam_zero}
use Rattle.binary64.proofs.SumCases.{aligned_some, aligned_none}
use Rattle.binary64_plain.proofs.add.align.Goals as goal

-- the significand in its place, or zero
abbrev placed : ℕ → ℕ
placed b = cond (not (eqb (expo b) 0)) ((2 ^ 52 + frac b) * 2 ^ 9) 0

pub returns : goal.returns
returns c =
    let is_placed : c.kept.result ≡ placed c.args.b = c.kept.ensures
    ∙ ap₂ (λ (E x : ℕ). cond (not (eqb E 0)) x 0) c.exponent.ensures (significand_shl 9 c.significand.result (frac c.args.b) (omega arith) (omega arith) c.significand.ensures) in
    c.shift_jam.ensures ∙ ap (jam c.args.d) is_placed
    ∙ by_eq (λ (t : Bool). jam c.args.d (cond (not t) ((2 ^ 52 + frac c.args.b) * 2 ^ 9) 0) ≡ aligned c.args.d c.args.b) (expo c.args.b) 0 (λ e. jam_zero c.args.d ∙ sym (aligned_none c.args.d c.args.b e)) (λ n. sym (aligned_some c.args.d c.args.b n))
