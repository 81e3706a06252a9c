-- Laws for the proofs of the functions, and of those above: texts written in parts and whole (Placed), decimal digits (Decimal).
pub mod Placed
pub mod Decimal
