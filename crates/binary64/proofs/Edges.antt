-- Document 01's edge table and the one for the roundings, each proved together: every row holds, by computing the definitions on its operands.
use mathlib.Core.Path.{refl}
use lib.Ieee.{size}
use Rattle.bits.specs.Ops.{xor_w}
use Rattle.binary64.specs.Number.{magnitude}
use Rattle.binary64.specs.Rounding.{rounded_e, rounded_f, mag_bits}
use Rattle.binary64.specs.Product.{product}
use Rattle.binary64.specs.Sum.{sum_of, sum}
use Rattle.binary64.specs.Floor.{floor}
use Rattle.binary64.specs.Truncate.{truncate}
use Rattle.binary64.specs.Nearest.{nearest}
use Rattle.binary64.specs.Edges.{edges, EdgesHold, rounding_edges, RoundingEdgesHold}

pub edges_hold : EdgesHold
unfolding edges size xor_w magnitude rounded_e rounded_f mag_bits product sum_of sum floor
edges_hold = refl

pub rounding_edges_hold : RoundingEdgesHold
unfolding rounding_edges size magnitude rounded_e rounded_f mag_bits floor truncate nearest
rounding_edges_hold = refl
