-- The modules of the proofs of this crate.
pub mod Sizes
pub mod Immediates
pub mod Lengths
pub mod WellTyped
pub mod Exports
