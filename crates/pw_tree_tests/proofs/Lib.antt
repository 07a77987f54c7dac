-- The modules of the proofs of this crate.
pub mod Countdown
pub mod ArithmeticUnits
pub mod ArrayUnits
pub mod LoopUnits
pub mod CallUnits
pub mod ModuleUnits
pub mod IllTyped
