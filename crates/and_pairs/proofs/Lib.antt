-- AND's steps done a share (ShareTurns), a pair of shares (OnPairs, RowTurns) and a row of pairs (RowByRow) at a time; y share by share (Refreshed).
pub mod OnPairs
pub mod ShareTurns
pub mod RowTurns
pub mod RowByRow
pub mod Refreshed
