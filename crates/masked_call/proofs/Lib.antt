-- For a call over any plan: tape words (Tape), slices filled (Filling), a plan's words in order and the share run (Plans), answers (Answering),
-- what a call leaves (Acting), a call with one operand (OneOperand), a plan's run beside other cells (Beside), and over cells that were not cleared (Known).
pub mod Tape
pub mod Filling
pub mod Plans
pub mod Answering
pub mod Acting
pub mod OneOperand
pub mod Beside
pub mod Known
