-- Laws of salvage.
pub mod Keeps
pub mod Mended
pub mod Promises
