-- A trace's records: their layout, how they are read, how they are written.
pub mod Tables
pub mod Records
pub mod Writes
pub mod Traces
pub mod Promises
