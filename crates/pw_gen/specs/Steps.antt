-- The words of private functions' contracts.
pub mod StatementPieces
pub mod Places
pub mod Measuring
pub mod Emitting
pub mod ForPlaces
pub mod Functions
pub mod Naming
pub mod ReferenceKeys
pub mod Numbers
pub mod NextNumbers
