-- Written by tools/compile_plan.py: change the plan or the compiler, not this file.
-- The plan cut at its ANDs and ADDs (Runs).
pub mod Runs
