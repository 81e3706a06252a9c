-- A call on shares over any plan (Shares), and the share run that defines its result (WholeRun). Inner holds names that proofs cite.
pub mod Shares
pub mod WholeRun
pub mod inner
