-- Written by tools/compile_plan.py: change the plan or the compiler, not this file.
-- The plan cut at its ANDs and ADDs (Runs); that the plan is these parts, and the laws that masked_plan asks for (Laws).
pub mod Runs
pub mod Laws
