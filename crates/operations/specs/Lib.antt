-- What is proved of the operations on shares (Masked), and how many random words they take (RandomWords).
pub mod Masked
pub mod RandomWords
