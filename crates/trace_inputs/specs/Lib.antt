-- A record's numbers as settings, a sound, commands or a block.
pub mod Inputs
