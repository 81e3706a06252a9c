-- Names for what is written (Written), cited by inner functions only: nothing here has to be believed.
pub mod inner
