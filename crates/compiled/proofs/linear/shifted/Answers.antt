-- `compiled::linear::shifted` meets its contract.
use mathlib.Core.Path.{sym}
use Rattle.bits.specs.Ops.{shr_w}
use Rattle.compiled.proofs.Shifted.{shifted}
use Rattle.compiled.proofs.linear.shifted.Goals as goal

pub returns : goal.returns
unfolding shr_w
returns c =
    sym (shifted c.args.w c.args.q c.requires.0 c.requires.1 c.requires.2 c.args.i _)
