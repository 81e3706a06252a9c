-- AND from its parts (Parts), and in its halves, over the number of shares and the distance of an operand's shares (InHalves); on two shares in locals (OnTwo), with its
-- stores (Stores).
pub mod Parts
pub mod InHalves
pub mod Stores
pub mod OnTwo
