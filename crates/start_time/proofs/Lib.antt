-- Laws of a start that is due at a tick.
pub mod Ticks
