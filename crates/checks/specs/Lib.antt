-- What a plan reader finds (Reader), checking and the answers of calls (Answers), registers read before
-- they are written (Unset).
pub mod Reader
pub mod Answers
pub mod Unset
