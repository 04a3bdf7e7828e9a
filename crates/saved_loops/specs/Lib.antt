-- The definitions that contracts on a half's bytes cite.
pub mod Tables
pub mod Records
pub mod Promises
