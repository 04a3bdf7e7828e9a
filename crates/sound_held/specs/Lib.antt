-- Lanes given once.
pub mod Held
