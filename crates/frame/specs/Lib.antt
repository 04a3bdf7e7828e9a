-- The definitions that contracts on frames cite, here and in the crates above.
pub mod Frames
