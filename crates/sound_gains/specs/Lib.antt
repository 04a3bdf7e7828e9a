-- Readings times their gains.
pub mod Gained
