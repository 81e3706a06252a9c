-- `fft_lent::store` meets its contract.
use Rattle.fft_lent.proofs.InAndOut.{parts_out}
use Rattle.fft_lent.proofs.store.Goals as goal

pub returns : goal.returns
returns c =
    parts_out c.args.n c.requires.1 c.args.work.now c.args.res.now c.requires.3 c.store.ensures c.store-2.ensures
