-- Laws that the crates with a table cite.
pub mod Every
pub mod Largest
pub mod Quotients
