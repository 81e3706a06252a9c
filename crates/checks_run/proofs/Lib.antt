-- Laws of the check of a run's program (RunChecked).
pub mod RunChecked
