-- The blocks of a translation by the places of their registers (Named), and plan words by kind (Words), AND and ADD over registers
-- that are their fields (ByField), ADD's blocks in order (Adding), and its rounds by their shifts (Rounds).
pub mod Named
pub mod Words
pub mod ByField
pub mod Adding
pub mod Rounds
