-- Projects of several modules, written out, and what they are in memory.
pub mod Units
pub mod Interposition
pub mod PointerInLibrary
pub mod StaticNames
pub mod BreadthFirst
pub mod Variables
pub mod Binding
pub mod ReadModules
