-- What holds of a built-in plan (Computes); the plans as steps, with short runs of steps (Segments), the decoder of the exponent that the roundings to a whole
-- number share (Decoder), a run of ones found (RunOfOnes), one added by it (RoundUp), a sum's carries with its run of ones (CarryRun); the product's words
-- from the number of a row (ProductRows); what they cost (Cost), and what is proved of each (BuiltIns).
pub mod Computes
pub mod ProductRows
pub mod Cost
pub mod BuiltIns
pub mod words
