-- Split and join: there and back, and what they make of the words (SplitJoin).
pub mod SplitJoin
