-- Laws for the proofs of the functions: the parts of program and tape that a run is given (Parts), and what holds where a run is done (Done).
pub mod Parts
pub mod Done
