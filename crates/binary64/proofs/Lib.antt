-- The lemmas, each file over those above it. Dropping has the one fact about dropping low bits by which FloorModel and WholeModel have floor, truncation and
-- nearest on the word itself; these are what the plain code (binary64_whole) and the plans go by.
pub mod Cases
pub mod Words
pub mod Jam
pub mod Round
pub mod Encode
pub mod ProductModel
pub mod SumModel
pub mod SumCases
pub mod Dropping
pub mod FloorModel
pub mod WholeModel
pub mod Meaning
pub mod WholeMeaning
pub mod FloorMeaning
pub mod Corners
pub mod IeeeRound
pub mod Ieee
pub mod IeeeWhole
pub mod Edges
