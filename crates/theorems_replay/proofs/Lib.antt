-- The proofs of the statements.
pub mod Streams
pub mod Cuts
pub mod Played
pub mod Example
pub mod Lengths
pub mod OtherSamples
pub mod Narrow
pub mod Archive
pub mod AsVersion1
pub mod AlikeV2
pub mod StreamsV2
pub mod CutLanes
pub mod Coincide
pub mod Witnesses
pub mod Promises
