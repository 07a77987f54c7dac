-- The modules of the proofs of this crate.
pub mod Loop
pub mod TextTests
pub mod Whole
pub mod Written
