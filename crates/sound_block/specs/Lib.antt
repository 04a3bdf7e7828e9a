-- An accepted block.
pub mod Blocks
