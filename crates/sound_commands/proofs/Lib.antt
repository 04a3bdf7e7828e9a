-- Laws of a command set's definitions.
pub mod Answers
pub mod Orders
pub mod Refusals
