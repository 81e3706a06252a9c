-- Laws for the proofs of the functions: bytes handed on piece by piece (Handing).
pub mod Handing
