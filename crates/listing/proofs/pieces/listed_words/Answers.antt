-- `listing::pieces::listed_words` meets its contract.
use Rattle.listing.proofs.Piecewise.{listed_taken, listed_none, done, not_done}
use Rattle.listing_lines.proofs.Placed.{wrote_empty}
use Rattle.listing.proofs.pieces.listed_words.Goals as goal

pub returns-in-Err : goal.returns-in-Err
returns-in-Err c = wrote_empty _ (listed_none _ (not_done _ _ c.in-Err.ensures))

pub returns-in-Ok : goal.returns-in-Ok
returns-in-Ok c = rw (listed_taken _ (done _ c.in-Ok.ensures)) c.plan_words.ensures
