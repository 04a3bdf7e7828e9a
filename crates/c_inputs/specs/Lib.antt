-- Settings, commands and signals from C records.
pub mod Inputs
