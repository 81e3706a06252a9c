-- What a translation emits: tests over steps (Tests), numbers in a row (Rising), pairs of shares (Pairs), where cells lie
-- (Places), AND's scratch cells (Wiping), what holds of every share step (Ranges, Good), words as steps (Steps), that they name
-- cells below 352 only (Low), and the counts (Counts).
pub mod Tests
pub mod Rising
pub mod Pairs
pub mod Places
pub mod Wiping
pub mod Ranges
pub mod Good
pub mod Steps
pub mod Low
pub mod Counts
