-- When what was read of an input is enough to list it by (Whole); which bytes are handed on (HandedOn).
pub mod Whole
pub mod HandedOn
