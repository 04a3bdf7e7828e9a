-- The steps of one frame, and a scan along a track.
pub mod Moves
pub mod Scans
