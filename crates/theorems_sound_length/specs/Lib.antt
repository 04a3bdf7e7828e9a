-- Two sounds of equal length: what depends on the samples, and what does not.
pub mod Muted
pub mod Lengths
pub mod Rows
pub mod Archive
pub mod Witnesses
pub mod Promises
