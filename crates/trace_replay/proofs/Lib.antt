-- Laws of a replay.
pub mod Parts
pub mod Answers
pub mod Replays
pub mod Steps
