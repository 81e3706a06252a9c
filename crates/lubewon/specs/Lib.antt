-- The root of what is claimed (Claims), and examples of turn-downs (TurnDowns).
pub mod Claims
pub mod TurnDowns
