-- A command set, accepted and refused.
pub mod Commands
