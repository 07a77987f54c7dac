-- The modules of the proofs of this crate.
pub mod Pigeons
pub mod LoadedModules
pub mod SlotNames
pub mod CanRun
pub mod Runs
pub mod Witness
