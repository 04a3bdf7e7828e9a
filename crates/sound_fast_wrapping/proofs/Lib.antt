-- Laws of a scan that wraps.
pub mod TwoFrames
