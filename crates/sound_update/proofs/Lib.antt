-- Laws of updates.
pub mod Kept
pub mod Updates
