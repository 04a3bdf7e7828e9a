-- The definitions that contracts of the exports cite.
pub mod Answers
pub mod Places
pub mod Moves
pub mod Windows
pub mod States
