-- Laws of creation's definitions.
pub mod Answers
pub mod Makes
pub mod Refusals
