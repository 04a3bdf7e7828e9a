-- The definitions that contracts on the window cite, here and in the crates above.
pub mod Windows
