-- Laws of lanes given once.
pub mod Once
