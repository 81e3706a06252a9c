-- Names for a plan's registers, what ADD asks of them, and good words (PlanWords), cited by inner functions only: nothing here has to be believed.
pub mod inner
