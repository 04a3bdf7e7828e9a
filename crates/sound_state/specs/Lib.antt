-- The state of a voice, and when it is well formed.
pub mod Voices
pub mod WellFormed
pub mod Refusals
