-- Names that inner contracts cite.
pub mod Inner
