-- The modules of the proofs of this crate.
pub mod Reading
pub mod Judging
