-- Powers of two as the words of one bit (OneBit).
pub mod OneBit
