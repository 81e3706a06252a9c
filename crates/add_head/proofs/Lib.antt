-- The words written (Written), and what holds of the conversion (Converts).
pub mod Written
pub mod Converts
