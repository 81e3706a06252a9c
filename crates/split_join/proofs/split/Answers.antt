-- `split_join::split` meets its contract.
use mathlib.Core.Path.{sym, ap}
use lib.ListN.{length}
use Rattle.split_join.proofs.SplitJoin.{split_ready}
use Rattle.split_join.proofs.split.Goals as goal

pub mask-requires : goal.mask-requires
mask-requires c =
    split_ready (length c.args.out.now) (length c.args.tape.now) (ap (λ r. r.number) (sym c.in_ok-counts.ensures))
