-- The modules of the proofs of this crate.
pub mod PhraseFolds
pub mod StatementFolds
pub mod TreeFolds
pub mod CommandFolds
pub mod Programs
pub mod NumberRows
pub mod OrderRows
pub mod LoopRows
pub mod ModuleRows
pub mod DepthRows
pub mod Growth
pub mod Follows
pub mod LawProofs
pub mod Nesting
pub mod Parts
