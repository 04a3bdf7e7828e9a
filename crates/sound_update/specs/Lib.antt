-- One update of the moving part, several updates, and the window in two parts.
pub mod Updates
pub mod Windows
