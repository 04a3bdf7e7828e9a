-- The definitions that contracts on states cite, here and in the crates above.
pub mod States
