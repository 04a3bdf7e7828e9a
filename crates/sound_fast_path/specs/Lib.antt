-- A block along a track.
pub mod BlockLanes
pub mod Scans
