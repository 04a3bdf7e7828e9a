-- Creation, accepted and refused.
pub mod Creation
