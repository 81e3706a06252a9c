-- What `sharelist` writes (Sharelist), and the listing piece by piece (Pieces).
pub mod Sharelist
pub mod Pieces
