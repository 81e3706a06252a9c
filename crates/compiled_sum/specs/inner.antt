-- Written by tools/compile_plan.py: change the plan or the compiler, not this file.
-- That the plan is these parts, and the laws that masked_plan asks for (Laws).
pub mod Laws
