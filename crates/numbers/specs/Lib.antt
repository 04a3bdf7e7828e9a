-- The definitions that contracts on numbers cite, here and in the crates above.
pub mod Words
pub mod Frames
pub mod Lists
