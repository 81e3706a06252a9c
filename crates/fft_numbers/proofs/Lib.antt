-- Sizes of a layer (Powers), its pairs' places (Places), laws of slots and acts (Laws), what a done call was given and that a refused one changes
-- nothing (Answered), and the lent words (Laid). What is proved of calculations made of calls: numbers stay n shares and hand on agreement in a
-- share (Slots), they join (Joined), each call gives what it gives by itself (Called), each step is secret (Secret), tape words (Tape); and at
-- the lent words of the complex product and a layer (Starts, Holds).
-- What a layer on plain words means (Means), what complex product, pair and layer come to on shares (OnShares), what their calls
-- report (RandomWords), and the worked examples (Examples).
pub mod Powers
pub mod Places
pub mod Laws
pub mod Laid
pub mod Answered
pub mod Slots
pub mod Joined
pub mod Called
pub mod Secret
pub mod Tape
pub mod Starts
pub mod Holds
pub mod Means
pub mod OnShares
pub mod RandomWords
pub mod Examples
