-- Laws for the proofs of the functions: a plan's word straight (Straight).
pub mod Straight
