-- Laws that the proofs of this crate and of the crates above cite.
pub mod Values
pub mod Signs
pub mod Silence
pub mod Bounds
pub mod Fractions
pub mod Stepping
pub mod Narrowing
pub mod Frames
pub mod Lists
pub mod Equal
pub mod Products
