-- The lines that `sharelist` writes (Lines), and how texts are written into lent slices (Writing).
pub mod Lines
pub mod Writing
