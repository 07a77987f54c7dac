-- The modules of the proofs of this crate.
pub mod Iterations
pub mod Wrapping
pub mod Leaves
pub mod Levels
pub mod Wholes
pub mod Heads
pub mod Nesting
pub mod Shorter
