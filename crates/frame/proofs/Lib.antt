-- What is proved about the cubic beyond its definition.
pub mod Silence
pub mod AtZero
pub mod Difference
pub mod MinusZero
pub mod Turned
