-- What the parser answers for a whole list, and the words of private contracts.
pub mod Whole
pub mod Steps
