-- `emission_rows::alone` meets its contract.
use Rattle.emission_rows.proofs.Parts.{words_then}
use Rattle.emission_rows.proofs.alone.Goals as goal

pub returns : goal.returns
returns c = words_then _ _ c.put_word-at.ensures c.row.ensures
