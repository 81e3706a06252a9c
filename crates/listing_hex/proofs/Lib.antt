-- Laws for the proofs of the functions: the lines of share words (Hex).
pub mod Hex
