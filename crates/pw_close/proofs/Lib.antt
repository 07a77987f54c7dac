-- The modules of the proofs of this crate.
pub mod Marks
pub mod Rounds
pub mod Closing
pub mod Ways
