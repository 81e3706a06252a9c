-- Document 01's numbers: what a word stands for (Number), rounding (Rounding), whole numbers (Whole), the operations and their list (Operations), and the
-- tables of edges (Edges).
-- Statements about them: what dropping low bits does to a number (Whole), that rounding and the whole numbers mean what the documents say (Meaning), their
-- sentences on zeros, underflow, cancellation, the roundings' outer ranges and E = 2047 (Corners), and where the operations are IEEE 754's (Ieee).
-- Steps has names for intermediate numbers only.
pub mod Number
pub mod Rounding
pub mod Product
pub mod Sum
pub mod Whole
pub mod Floor
pub mod Truncate
pub mod Nearest
pub mod Operations
pub mod Meaning
pub mod Corners
pub mod Edges
pub mod Ieee
pub mod inner
