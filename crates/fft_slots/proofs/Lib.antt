-- Numbers in slots and among the lent words (Holding); two of them as a call's operands in registers 0 and 1 (Registers); acts in turn (OneByOne); the slots'
-- numbers (Sixteen).
pub mod Holding
mod Registers
pub mod OneByOne
pub mod Sixteen
