-- The counts that the code has read.
pub mod Counted
