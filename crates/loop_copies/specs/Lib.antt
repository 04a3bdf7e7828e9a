-- A copy of a loop table at one of two boxes.
pub mod Copies
