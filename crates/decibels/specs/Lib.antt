-- The definitions that contracts on levels and ramps cite.
pub mod Levels
pub mod Ramps
pub mod Promises
