-- Share programs: the translation (Translation), the counts foretold (Foretold), the share machine (Machine), share runs in a row
-- (Runs), the head (Head), what shares join to (Unsplit), and the statements proved of them: counts (Counts), wiped scratch cells (Wiped), secrecy (Secrecy),
-- demand 3 (Demand3), that agreement in a share is kept (Kept), that what a plan reads at the start decides its results (Reads), that AND needs
-- its refresh (Leaks) and has to wipe last (WipedFirst), that NOT and CONST need a share apart (EveryShare), and worked examples (Examples).
pub mod Translation
pub mod Foretold
pub mod Machine
pub mod Runs
pub mod Head
pub mod Unsplit
pub mod Counts
pub mod Wiped
pub mod Secrecy
pub mod Demand3
pub mod Kept
pub mod Reads
pub mod Leaks
pub mod WipedFirst
pub mod EveryShare
pub mod Examples
