-- What is proved about the states beyond their definitions.
pub mod Stays
