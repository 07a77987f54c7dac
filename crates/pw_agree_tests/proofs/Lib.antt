-- The modules of the proofs of this crate.
pub mod Interposition
pub mod PointerInLibrary
pub mod StaticNames
pub mod BreadthFirst
pub mod Variables
pub mod Binding
pub mod ReadModules
