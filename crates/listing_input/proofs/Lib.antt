-- Laws for the proofs of the functions: the answer to an input by its cases (Answered), and the input's plan words (Words).
pub mod Answered
pub mod Words
