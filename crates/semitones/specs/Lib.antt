-- The definitions that contracts on pitches cite.
pub mod Ratios
pub mod Promises
