-- Laws of the plain machine for its callers' proofs (Laws), and worked examples (Examples).
pub mod Laws
pub mod Examples
