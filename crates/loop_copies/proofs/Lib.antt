-- Laws of copies.
pub mod Counts
pub mod Slots
