-- Two halls at one table of loops, and the voices that take loops from it.
pub mod Calls
pub mod Apart
pub mod Witnesses
pub mod Promises
