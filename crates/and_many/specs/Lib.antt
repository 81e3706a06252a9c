-- What the contracts of inner functions say (inner). Nothing here has to be believed.
pub mod inner
