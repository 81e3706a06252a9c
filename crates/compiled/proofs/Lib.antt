-- The law of share by share (Commute), a run's words in another order (Reorder), a run share by share as its translation (OnSteps), a plan as runs and the words between (Cut), what is left of a match on
-- numbers (Rest), a word with a shift number as one of the plan (Shifted), and a turn of the loop over shares (Turn).
pub mod Commute
pub mod Reorder
pub mod OnSteps
pub mod Cut
pub mod Rest
pub mod Shifted
pub mod Turn
