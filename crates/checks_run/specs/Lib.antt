-- The check of a run's program (RunCheck).
pub mod RunCheck
