-- Instructions, from the fields of an instruction word to its instruction and back; then the names of registers and
-- of environment calls.
pub mod Formats
pub mod Listing
pub mod Encoding
pub mod Registers
pub mod EnvironmentCalls
