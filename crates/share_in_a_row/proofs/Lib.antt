-- Laws for the proof of runs in a row: the bounds on what a run reports, and one turn of the loop (Bounds).
pub mod Bounds
