-- A voice as a C record.
pub mod Records
