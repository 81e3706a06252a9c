-- Names that inner contracts cite (Inner). What the complex product gives stands in fft_numbers's specs.
pub mod inner
