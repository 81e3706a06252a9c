-- Steps done on the cells, part by part (Running); a turn of the loop over shares (Turn); cells that are the same but for AND's t and u (Likeness), and AND's steps
-- done up to these (Toward); a share of y behind its words (Behind); AND's scratch cells wiped (Zeros).
pub mod Running
pub mod Turn
pub mod Likeness
pub mod Toward
pub mod Behind
pub mod Zeros
