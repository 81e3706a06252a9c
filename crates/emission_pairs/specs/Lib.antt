-- Names for what pairs of shares get (Pairs), cited by inner functions only: nothing here has to be believed.
pub mod inner
