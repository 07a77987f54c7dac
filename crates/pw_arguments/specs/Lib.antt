-- The arguments of a command line, and the words that they are.
pub mod Arguments
pub mod Words
