-- Laws for the proofs of the functions: what pairs get pair by pair (ByPair).
pub mod ByPair
