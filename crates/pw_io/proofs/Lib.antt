-- The laws of the three ports that callers cite, each on states alone.
pub mod Counts
pub mod Sources
pub mod Sinks
pub mod Stores
pub mod FileLookups
pub mod FailedCalls
