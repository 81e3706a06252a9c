-- Selection by masks (Selecting), and rounding as the code selects it (Encoded), in numbers.
pub mod Selecting
pub mod Encoded
