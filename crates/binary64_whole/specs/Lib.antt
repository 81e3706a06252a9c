-- Steps has names for intermediate numbers only.
pub mod inner
