-- Laws for the proofs of the functions: a plan's share program word by word (Program), the sums over a plan and the answers (Counted). And what
-- ties Translate to demand 3 (Tied).
pub mod Program
pub mod Counted
pub mod Tied
