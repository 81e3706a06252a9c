-- Laws for the proofs of the functions: the search for a bad word (Checking), and for one that reads what is not set (Unset), what an answer that is done says of the turn-downs before it
-- (Passed), the checks of plans and share programs (Checked), and writing into lent slices (Slices).
pub mod Checking
pub mod Unset
pub mod Passed
pub mod Checked
pub mod Slices
