-- Laws of the entries' definitions.
pub mod Calls
pub mod Entries
pub mod Held
pub mod Places
pub mod Refusals
pub mod Whole
