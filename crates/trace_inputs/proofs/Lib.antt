-- Laws of a record's contents.
pub mod Samples
pub mod LaneLoops
