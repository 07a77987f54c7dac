-- The words of this crate's private contracts.
pub mod Parts
pub mod Memories
