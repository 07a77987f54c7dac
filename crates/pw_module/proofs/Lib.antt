-- The modules of the proofs of this crate.
pub mod Steps
pub mod Fields
pub mod Repeats
pub mod Numbers
pub mod Functions
pub mod Records
pub mod Tables
