-- Names for good words that inner functions cite (Good); nothing here has to be believed. The share machine is defined in masking's Machine.
pub mod inner
