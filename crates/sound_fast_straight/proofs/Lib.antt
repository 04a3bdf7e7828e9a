-- Laws of a scan that does not wrap.
pub mod FourFrames
pub mod Consecutive
