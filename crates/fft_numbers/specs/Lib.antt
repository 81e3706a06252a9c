-- Calculations made of calls: acts on numbers in slots, on plain words and on shares (Acts); the complex product and one layer of the
-- transform as such lists (Complex, Layer); the lent words (Layout); the calls' answers and what they leave (Calls); what is proved (Secrecy,
-- Holds), what a layer on plain words means and what complex product, pair and layer come to on shares (Means), how many random words
-- their calls take (RandomWords), with worked examples (Examples).
pub mod Acts
pub mod Complex
pub mod Layer
pub mod Layout
pub mod Calls
pub mod Secrecy
pub mod Holds
pub mod Means
pub mod RandomWords
pub mod Examples
