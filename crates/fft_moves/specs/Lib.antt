-- Names that inner contracts cite (Inner).
pub mod inner
