-- Laws for the proofs of the functions: one turn of a loop over share words (Turns), what the rule of share programs says of a step (Steps),
-- what a word takes of the tape (ByKind).
pub mod Steps
pub mod Turns
pub mod ByKind
