-- The definitions that contracts of the examples cite.
pub mod Places
