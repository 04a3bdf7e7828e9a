-- Laws of constant lanes.
pub mod Lanes
