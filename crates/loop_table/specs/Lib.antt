-- The table of loops that two halls share.
pub mod Tables
