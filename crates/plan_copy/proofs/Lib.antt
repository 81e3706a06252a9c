-- Copying a plan's words out (Copying).
pub mod Copying
