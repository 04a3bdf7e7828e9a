-- A voice takes a slot's loop.
pub mod Taking
