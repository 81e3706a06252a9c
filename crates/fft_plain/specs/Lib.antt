-- Names that inner contracts cite (Inner). What the calls do stands in fft_numbers's specs.
pub mod inner
