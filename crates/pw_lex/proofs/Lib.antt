-- The modules of the proofs of this crate.
pub mod Lists
pub mod Value
pub mod Entries
pub mod FirstBytes
pub mod Comments
pub mod Characters
pub mod Constants
pub mod Prefixes
pub mod Whole
pub mod OneWay
pub mod Places
pub mod Exports
