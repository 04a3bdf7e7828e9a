-- The theorems about two sounds of equal length.
pub mod Windows
pub mod Plays
pub mod Calls
pub mod Rows
pub mod Archive
pub mod Promises
