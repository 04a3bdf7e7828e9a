-- Laws of pitches.
pub mod Ratios
pub mod Promises
