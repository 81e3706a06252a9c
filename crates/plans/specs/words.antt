-- The built-in plans' words, as lists of steps, and the segments that they are made of.
pub mod Segments
pub mod RunOfOnes
pub mod CarryRun
pub mod RoundUp
pub mod Decoder
pub mod ProductPlan
pub mod SumPlan
pub mod FloorPlan
pub mod TruncatePlan
pub mod NearestPlan
