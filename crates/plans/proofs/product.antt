-- The product's plan: a carry-save row (CarrySave), the operands (Operands), the rows (Rows), the high half with the exponents (High); the tail as words (End) and in numbers: the bits that
-- ride in its foldings (Pairs, Terms), what is folded (Folds), the tests (Tested), the AND of bits (Products), rounding and normalising (Rounded), the choice (Chosen), put together (Closing)
-- and by range (Tail, Ended); rounding from one less than the product (Rounding), the one product that there is not (Gap), the definition's bits (Bits), the link (Last), the theorem (Computes);
-- and its words from the number of a row (Words).
pub mod CarrySave
pub mod Operands
pub mod Rows
pub mod High
pub mod Ended
pub mod End
pub mod Pairs
pub mod Terms
pub mod Folds
pub mod Tested
pub mod Products
pub mod Rounded
pub mod Chosen
pub mod Closing
pub mod Tail
pub mod Rounding
pub mod Gap
pub mod Bits
pub mod Last
pub mod Computes
pub mod Words
