-- The modules of the proofs of this crate.
pub mod SmallFields
pub mod Texts
