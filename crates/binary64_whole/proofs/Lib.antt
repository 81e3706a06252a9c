-- What the code selects, in numbers.
pub mod Selected
