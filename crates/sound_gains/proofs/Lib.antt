-- Laws of readings times their gains.
pub mod Gained
