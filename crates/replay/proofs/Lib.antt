-- Laws of the window.
pub mod Places
