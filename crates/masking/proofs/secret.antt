-- What the steps of a translation hide: steps as acts (Acts), two runs in step and the pairing that they give (Wp), how shares meet in
-- pairs (Meeting), a step for each share (EachShare), agreement of registers (Registers), the parts of AND's steps (Refresh, Products)
-- and the whole (AndSecret), sets of shares and what marks put into them (Sets, Assigned, AndMarked), what steps read (Reading), rows of
-- gadgets (Gadgets), blocks as gadgets (Blocks), the pairing over lists of cells (Hidden), the theorem for any share program
-- (Programs) and for translated plans (Secret), its form over lists of share runs (SecretRuns), that agreement in a share is kept (Kept), and
-- two pairings in turn (InTurn).
pub mod Acts
pub mod Wp
pub mod Meeting
pub mod EachShare
pub mod Refresh
pub mod Products
pub mod Registers
pub mod AndSecret
pub mod Sets
pub mod Assigned
pub mod AndMarked
pub mod Reading
pub mod Gadgets
pub mod Blocks
pub mod Hidden
pub mod Programs
pub mod Secret
pub mod SecretRuns
pub mod Kept
pub mod InTurn
