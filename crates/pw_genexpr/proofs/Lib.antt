-- The modules of the proofs of this crate.
pub mod Appending
pub mod Distances
pub mod Held
pub mod Arguments
pub mod Trees
pub mod Emitting
pub mod Whole
