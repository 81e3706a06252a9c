-- What the code computes, in numbers: shifts (Shifts), the product by columns (Columns), and what is selected (Selected).
pub mod Shifts
pub mod Columns
pub mod Selected
