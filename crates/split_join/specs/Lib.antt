-- Split and join, and that they go there and back (SplitJoin).
pub mod SplitJoin
