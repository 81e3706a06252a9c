-- `and_parts::once::Place::cell` meets its contract.
use native.Mathlib.Omega.{arith}
use mathlib.Core.Path.{refl}
use Rattle.and_parts.proofs.Turn.{at_inside}
use Rattle.and_parts.proofs.once.Place.cell.Goals as goal

pub overflow_mul-result : goal.overflow_mul-result
overflow_mul-result c = omega (arith, at_inside c.args.self c.requires.1 c.args.i c.requires.0)

pub overflow_add-result : goal.overflow_add-result
overflow_add-result c = omega (arith, at_inside c.args.self c.requires.1 c.args.i c.requires.0)

pub returns : goal.returns
returns c = (refl, at_inside c.args.self c.requires.1 c.args.i c.requires.0)
