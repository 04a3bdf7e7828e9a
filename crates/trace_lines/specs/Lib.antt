-- The lines that a replay prints.
pub mod Lines
