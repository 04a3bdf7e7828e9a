-- Layouts as tables of rows: what a row is, what is read by it, what is written by it.
pub mod Numbers
pub mod Rows
pub mod Reads
pub mod Writes
