-- Laws of a half's bytes.
pub mod Checksums
pub mod Loads
pub mod Stores
pub mod Rounds
pub mod Promises
