-- `binary64_whole::nearest` meets its contract (`nearest_selected`).
use Rattle.std.proofs.Common.{refl}
use Rattle.binary64_whole.proofs.Selected.{nearest_selected}
use Rattle.binary64_whole.proofs.nearest.Goals as goal

pub returns : goal.returns
returns c =
    nearest_selected c.args.a c.fraction-f.result c.last_whole.result _ c.cleared-rounded.result c.below_one.result
    c.by_range.result c.ranges.a.fits c.last_whole.ensures.0 c.fraction-f.ensures c.last_whole.ensures.1 refl c.cleared-rounded.ensures
    c.below_one.ensures c.by_range.ensures
