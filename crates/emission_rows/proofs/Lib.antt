-- Laws for the proofs of the functions, and of those above: writing in parts (Parts), words in a row (Rows), words once per share (Each).
pub mod Parts
pub mod Rows
pub mod Each
