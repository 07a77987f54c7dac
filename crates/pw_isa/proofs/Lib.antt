-- The proofs about instruction words, with examples.
mod Examples
pub mod Immediates
pub mod Opcodes
pub mod Listing
pub mod RoundTrip
