-- The definitions that the C entries' contracts cite.
pub mod Entries
pub mod Loops
pub mod Saved
pub mod Traces
pub mod Replays
pub mod ReplaysV2
