-- What a translation computes joined: cells as a function (Cells), runs over any tape (After), exclusive-ors over shares (Sums), a step
-- once per share (Once), cells wiped (Zeroed), AND by its parts (Refresh, Products, And), blocks against the unsplit machine (Blocks), ADD (Add),
-- and plans (Plan); AND's scratch cells after a plan (Wiped), runs beside other cells (Beside), and what runs from different cells agree in: of any
-- steps (Decided), of blocks (DecidedBlocks), and of plans (Known).
pub mod Cells
pub mod After
pub mod Sums
pub mod Once
pub mod Zeroed
pub mod Refresh
pub mod Products
pub mod And
pub mod Blocks
pub mod Add
pub mod Plan
pub mod Wiped
pub mod Beside
pub mod Decided
pub mod DecidedBlocks
pub mod Known
