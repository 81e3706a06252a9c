-- Nearest's plan: the steps after the decoder in parts (Parts), by the ranges of E (Outside, Between), the theorem (Computes).
pub mod Parts
pub mod Outside
pub mod Between
pub mod Computes
