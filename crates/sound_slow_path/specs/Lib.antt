-- A started, advancing block, and one frame of it.
pub mod Plays
pub mod FrameSteps
