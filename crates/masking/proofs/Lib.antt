-- Share programs proved, each part over those above it: what a translation emits (emitted), what it computes joined (joined), a share run's
-- answer (OneRun), the head (Head), share runs in a row (InARow), what the steps of a share program hide (secret), and demand 3, which puts them together
-- (Demand3). Beside these, worked examples (Examples), and that an AND without its refresh leaks (Leaks), that one that wipes before its copy
-- gives 0 (WipedFirst) and that NOT and CONST in every share join wrongly at even n (EveryShare).
pub mod Examples
pub mod Leaks
pub mod EveryShare
pub mod emitted
pub mod joined
pub mod OneRun
pub mod Head
pub mod InARow
pub mod secret
pub mod Demand3
pub mod WipedFirst
