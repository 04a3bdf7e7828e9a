-- Laws of playing.
pub mod Keeps
pub mod Loops
pub mod Lowest
pub mod Plays
pub mod Spread
pub mod FrameSteps
