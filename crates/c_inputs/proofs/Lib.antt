-- Laws of the inputs.
pub mod Nan
pub mod Unknown
