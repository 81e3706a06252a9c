-- The decoder of the exponent: its words for r and for c apart (Words), what it leaves for every operand (Decoded), and whether E = 0 beside that (Zero).
pub mod Words
pub mod Decoded
pub mod Zero
