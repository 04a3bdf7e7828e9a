-- The block, the block into a mix and the stretch, accepted and refused.
pub mod Entries
