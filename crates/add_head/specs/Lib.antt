-- The conversion of a stored share program without a head (Conversion), and what holds of it (Converts).
pub mod Conversion
pub mod Converts
