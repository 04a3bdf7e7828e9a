-- The definitions that contracts on positions and regions cite, here and in the crates above.
pub mod Positions
