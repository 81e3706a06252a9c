-- Written by tools/compile_plan.py: change the plan or the compiler, not this file.
-- Truncation's plan: names that inner contracts and proofs cite (inner); no contract of a public call does.
pub mod inner
