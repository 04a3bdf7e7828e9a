-- The definitions that a table's contract cites.
pub mod Largest
