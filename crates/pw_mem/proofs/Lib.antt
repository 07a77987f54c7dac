-- The laws of memory on memories alone, and last those of its fetches, which callers cite.
pub mod Bytes
pub mod Regions
pub mod Words
pub mod Text
pub mod Mapping
pub mod Zeros
pub mod Find
pub mod Writes
pub mod Loads
pub mod Apart
pub mod States
