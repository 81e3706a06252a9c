-- Word operations (Ops) and the unsplit form of the masked adder (Adder).
pub mod Ops
pub mod Adder
