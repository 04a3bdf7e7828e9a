-- Laws of counts.
pub mod Counting
