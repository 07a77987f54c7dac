-- What the contracts of the reader's own functions cite: each says of a step what the grammar's reading says of it.
pub mod Cursor
pub mod Values
pub mod Nests
pub mod Heads
pub mod Nesting
pub mod Walk
pub mod Answers
