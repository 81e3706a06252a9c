-- Floor's plan: the theorem (Computes).
pub mod Computes
