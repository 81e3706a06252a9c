-- Names for registers and for the steps of ADD (Registers), cited by inner functions only: nothing here has to be believed.
pub mod inner
