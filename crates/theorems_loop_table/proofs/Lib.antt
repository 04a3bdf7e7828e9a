-- The theorems about two halls at one table.
pub mod Stores
pub mod Rows
pub mod Apart
pub mod Follows
pub mod Promises
