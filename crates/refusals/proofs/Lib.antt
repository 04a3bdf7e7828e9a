-- What a number says of its refusal.
pub mod Numbers
