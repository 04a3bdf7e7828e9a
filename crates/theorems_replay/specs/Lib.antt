-- The theorems about the replay of a whole trace (request #104).
pub mod Streams
pub mod Cuts
pub mod Example
pub mod Lengths
pub mod Archive
pub mod ArchiveV2
pub mod Coincide
pub mod Witnesses
pub mod Promises
