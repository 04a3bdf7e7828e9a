-- The replay of a trace.
pub mod Runs
