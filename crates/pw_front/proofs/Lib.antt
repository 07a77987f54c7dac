-- The modules of the proofs of this crate.
pub mod Lines
pub mod OneReading
pub mod OneFault
pub mod ReadUnits
