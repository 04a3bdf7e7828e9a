-- Laws of scans along a track.
pub mod Moves
pub mod Scans
pub mod Readings
