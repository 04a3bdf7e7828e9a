-- Sealed records, kinds 4 and 5 of a trace: how they are read and written; and a trace of all five kinds.
pub mod Tables
pub mod Records
pub mod Writes
pub mod Promises
