-- The modules of the proofs of this crate.
pub mod Members
pub mod Listed
pub mod Levels
