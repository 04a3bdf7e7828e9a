-- Laws of saved settings.
pub mod Loads
pub mod Stores
pub mod Fields
pub mod Rounds
pub mod Buffers
pub mod Witnesses
pub mod Promises
