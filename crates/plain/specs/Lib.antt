-- The plain machine (Machine), the call that runs it (Call), what is proved of the machine (Laws), and worked examples (Examples).
pub mod Machine
pub mod Call
pub mod Laws
pub mod Examples
