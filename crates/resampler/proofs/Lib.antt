-- What is proved about the window beyond its definition.
pub mod Windows
pub mod Silence
