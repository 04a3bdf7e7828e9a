-- The track, and contiguous windows: four neighbouring frames of the track.
pub mod Tracks
pub mod Contiguous
