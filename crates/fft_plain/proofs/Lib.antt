-- The plain layer: a pair's stores, and what the loop over pairs keeps (Plainly).
mod Plainly
