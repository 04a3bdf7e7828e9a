-- Laws that the proofs of this crate and of the crates above cite.
pub mod Gathered
pub mod Largest
pub mod Advances
pub mod Rows
