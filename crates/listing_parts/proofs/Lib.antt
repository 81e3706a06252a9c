-- Laws for the proofs of the functions: the lines of one plan word (PlanWord), and of a plan's words part by part (Parts).
pub mod PlanWord
pub mod Parts
