-- Laws for the proofs of the functions: the opening put together (Opened), the listing piece by piece (Piecewise). Whole: the pieces are the
-- listing. Long: that of an input which is too long. Example: document 01's.
pub mod Opened
pub mod Piecewise
pub mod Whole
pub mod Long
pub mod Example
