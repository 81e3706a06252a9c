-- Names for good words of a plan and for registers (Good), cited by inner functions only: nothing here has to be believed.
pub mod inner
