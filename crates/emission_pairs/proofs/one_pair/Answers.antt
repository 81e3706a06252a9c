-- `emission_pairs::one_pair` meets its contract.
use Rattle.emission_pairs.proofs.one_pair.Goals as goal

pub returns-in-Refresh : goal.returns-in-Refresh
returns-in-Refresh c = rw c.in-Refresh.is c.refresh_pair.ensures

pub returns-in-Products : goal.returns-in-Products
returns-in-Products c = rw c.in-Products.is c.product_pair.ensures
