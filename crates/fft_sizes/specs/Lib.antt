-- What the sizes are in numbers stands in fft_numbers's specs.
pub mod inner
