-- Laws of the record of a voice.
pub mod Maps
pub mod Inverse
