-- Laws that the proofs of this crate and of the crates above cite.
pub mod Wraps
pub mod Steps
pub mod WellFormed
pub mod Rust
