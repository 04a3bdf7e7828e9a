-- Constant lanes.
pub mod Constant
