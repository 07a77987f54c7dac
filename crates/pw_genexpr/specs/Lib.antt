-- What a call that appends code asks for and leaves.
pub mod Appends
pub mod Conditions
pub mod Steps
