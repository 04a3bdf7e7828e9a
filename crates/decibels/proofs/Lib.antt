-- Laws of levels and ramps.
pub mod Levels
pub mod Amplitudes
pub mod Ramps
pub mod Promises
