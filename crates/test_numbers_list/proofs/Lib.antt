-- Laws of a line's fields and kinds.
pub mod Lines
