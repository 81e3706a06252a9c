-- The root of what is claimed, proved (Claims), with the examples of turn-downs (TurnDowns); every claim once more, its type written out (stated).
pub mod Claims
pub mod TurnDowns
pub mod stated
