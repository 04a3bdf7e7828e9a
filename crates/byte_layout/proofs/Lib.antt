-- Laws of layouts: numbers in bytes, the codec both ways, and the steps of the loops.
pub mod Numbers
pub mod Codec
pub mod Lengths
pub mod Ways
pub mod Loops
pub mod Puts
pub mod Low
pub mod Takes
