-- The laws of words, each file over those above it. What `lib.Bits` has is cited there and named here only on the word operations.
pub mod Digits
pub mod Xor
pub mod Shift
pub mod Bound
pub mod Choice
pub mod Places
pub mod Parity
pub mod Sum
pub mod Adder
