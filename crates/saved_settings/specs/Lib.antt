-- The definitions that contracts on saved settings cite.
pub mod Tables
pub mod Records
pub mod Promises
