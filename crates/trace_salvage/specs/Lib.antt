-- Salvage of a damaged trace.
pub mod Salvage
pub mod Promises
