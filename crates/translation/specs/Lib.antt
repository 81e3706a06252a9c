-- Measure and Translate: their answers, and what they leave in lent slices (Calls); what ties Translate to demand 3 (Tied).
pub mod Calls
pub mod Tied
