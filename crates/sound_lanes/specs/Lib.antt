-- The five lanes of a block and their checks.
pub mod Lanes
