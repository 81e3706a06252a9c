-- Written by tools/compile_plan.py: change the plan or the compiler, not this file.
-- The plan of the larger number (Plan), and names that inner contracts and proofs cite (inner), which no contract of a public call does.
pub mod Plan
pub mod inner
