-- Laws of lines.
pub mod Digits
