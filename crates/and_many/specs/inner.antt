-- What AND asks, for any number of shares and any distance of an operand's shares (Asked).
pub mod Asked
