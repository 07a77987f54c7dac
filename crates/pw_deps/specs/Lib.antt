-- Which dependency tables can be written, and last the words of private contracts.
pub mod Writable
pub mod Steps
