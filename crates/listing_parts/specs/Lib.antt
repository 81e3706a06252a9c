-- The lines of a plan's words, part by part (Parts).
pub mod Parts
