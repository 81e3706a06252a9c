-- How plans are run in proofs (Registers), checked (WellFormed) and held to a model (Modelled); what short runs of steps leave in numbers: fields and choices (Fields), shifts (Shifts), zero
-- tests in lanes (Lanes), bits that ride beside a word (Riding), a run of ones (RunOfOnes), one added by it (RoundUp), a sum's carries with its run of ones, step by step (CarryRun), of two
-- words (AddWithRun) and of two numbers in top places (TopRun), words with zeros below a place (Above), a word brought to 16 bits (Or16), rounding to nearest even (RoundTie); facts computed
-- for every number below a bound (Tests); numbers of a few bits (SmallBits), and what is computed for every choice of five bits (BitCases); the decoder of the exponent; the plans (product,
-- sum, floor, truncate, nearest) and what they cost (Cost).
pub mod Registers
pub mod WellFormed
pub mod Modelled
pub mod Fields
pub mod Shifts
pub mod Lanes
pub mod Tests
pub mod SmallBits
pub mod BitCases
pub mod Riding
pub mod RunOfOnes
pub mod RoundUp
pub mod CarryRun
pub mod AddWithRun
pub mod Above
pub mod TopRun
pub mod Or16
pub mod RoundTie
pub mod decoder
pub mod product
pub mod sum
pub mod floor
pub mod truncate
pub mod nearest
pub mod Cost
pub mod BuiltIns
