-- `binary64_whole::floor` meets its contract (`floor_selected`).
use Rattle.binary64_whole.proofs.Selected.{floor_selected}
use Rattle.binary64_whole.proofs.floor.Goals as goal

pub returns : goal.returns
returns c =
    floor_selected c.args.a c.fraction.result c.below_one.result c.lower-lowered.result c.by_range.result c.ranges.a.fits c.fraction.ensures
    c.below_one.ensures c.lower-lowered.ensures c.by_range.ensures
