-- Names that inner contracts and proofs cite: no claim and no public contract reaches them.
pub mod OnShare
pub mod Cut
