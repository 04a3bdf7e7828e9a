-- Laws of a trace's records.
pub mod Rounds
pub mod Ways
pub mod Sends
pub mod Marks
pub mod Traces
pub mod Windows
pub mod Answers
pub mod Witnesses
pub mod Promises
