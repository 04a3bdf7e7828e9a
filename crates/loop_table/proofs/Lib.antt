-- Laws of the table that its proofs and the crates above cite.
pub mod Accepted
