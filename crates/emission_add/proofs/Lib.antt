-- Laws for the proofs of the functions: steps on registers by where their shares lie (Registers), ADD's steps by their numbers (Numbered).
pub mod Registers
pub mod Numbered
