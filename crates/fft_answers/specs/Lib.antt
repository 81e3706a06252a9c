-- The answers themselves stand in fft_numbers's specs.
pub mod inner
