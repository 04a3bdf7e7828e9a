-- Laws of the exports' results.
pub mod Answers
pub mod Tested
pub mod Bits
