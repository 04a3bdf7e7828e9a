-- Laws of copies and of boxes.
pub mod Views
pub mod Merging
pub mod Reach
pub mod Steps
pub mod Alone
pub mod Shared
pub mod Witnesses
pub mod Promises
