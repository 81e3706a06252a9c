-- The definitions of step words: fields, kinds and bad words (Encoding), what each kind does (Table), limits, cells, lengths and tape
-- words per kind (Layout), the head of a share program (Head), and what is proved of taking apart and putting together (Parts).
pub mod Table
pub mod Encoding
pub mod Layout
pub mod Head
pub mod Parts
