-- Laws of tracks and contiguous windows.
pub mod Tracks
pub mod Counts
pub mod Contiguous
pub mod Same
