-- The definitions that contracts of the list cite.
pub mod Lines
