-- What the contracts of this crate say, and words for their proofs: share steps done straight on the cells (Effects). Nothing here has to be believed.
pub mod inner
