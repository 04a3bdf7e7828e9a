-- Two boxes, each with a copy of the loop table.
pub mod Boxes
pub mod Merging
pub mod AsAlone
pub mod Together
pub mod Witnesses
pub mod Promises
