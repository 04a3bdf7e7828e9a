-- The definitions that contracts on the transport cite, here and in the crates above.
pub mod Moves
pub mod WellFormed
pub mod Rust
