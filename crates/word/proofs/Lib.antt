-- Lemmas of no one function: bounds on counts (Small), what a step's range says of its cells (Ranges), what it makes of its
-- cell (Becomes), putting together and taking apart (Together), and the head of a share program (Head).
pub mod Small
pub mod Ranges
pub mod Becomes
pub mod Together
pub mod Head
