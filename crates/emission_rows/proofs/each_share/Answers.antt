-- `emission_rows::each_share` meets its contract.
use Rattle.emission_rows.proofs.Rows.{word_row, each_rises}
use Rattle.emission_rows.proofs.each_share.Goals as goal

pub row-requires : goal.row-requires
row-requires c =
    let g = c.args in record { rises = rw (c.put-first.ensures, c.put-over.ensures) (each_rises g.k g.d g.a g.b c.requires.each_fits); n_in_bounds = c.requires.n_in_bounds }

pub returns : goal.returns
returns c =
    let g = c.args in
    rw (word_row g.k g.d g.a g.b g.n c.requires.each_fits, ← c.put-first.ensures, ← c.put-over.ensures) c.row.ensures
