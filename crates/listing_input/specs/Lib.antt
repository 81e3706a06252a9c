-- What `sharelist` makes of its input (Input).
pub mod Input
