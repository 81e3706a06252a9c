-- `and_many::counts::and_n` meets its contract: AND's halves for N shares.
use borrow.Author.Rules.{rules}
use Rattle.and_many.proofs.InHalves.{first_asks, second_asks, both_done}
use Rattle.and_many.proofs.counts.and_n.Goals as goal

pub first_half-t-requires : goal.first_half-t-requires
first_half-t-requires g c = record { le_n = (first_asks c.requires).0; enough = (first_asks c.requires).1 }

pub second_half-requires : goal.second_half-requires
second_half-requires g c = record { n_bound = (second_asks c.requires (search rules) c.first_half-t.ensures).0; enough = (second_asks c.requires (search rules) c.first_half-t.ensures).1 }

pub returns : goal.returns
returns g c = both_done c.requires c.first_half-t.ensures c.second_half.ensures
