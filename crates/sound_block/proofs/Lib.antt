-- Laws of a block.
pub mod Begins
pub mod Blocks
pub mod Fills
pub mod Keeps
pub mod Sounds
