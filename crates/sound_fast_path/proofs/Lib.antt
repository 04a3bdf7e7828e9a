-- Laws of scans.
pub mod Scans
pub mod Joins
pub mod After
