-- The calls that copy the built-in plans out.
pub mod Copy
