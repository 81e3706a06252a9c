-- Laws for the proofs of the functions: AND's steps in parts (Laid).
pub mod Laid
