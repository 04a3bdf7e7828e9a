-- Laws of sealed records.
pub mod Firsts
pub mod Ways
pub mod Sums
pub mod Rounds
pub mod Sends
pub mod Windows
pub mod Readers
pub mod Promises
