-- Two of ADD's steps share by share (InTurn).
pub mod InTurn
