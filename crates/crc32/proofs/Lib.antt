-- Laws of checksums.
pub mod Xor
pub mod Registers
pub mod Promises
