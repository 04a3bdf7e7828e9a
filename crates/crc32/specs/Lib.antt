-- CRC-32, the checksum of IEEE 802.3.
pub mod Checksums
pub mod Promises
