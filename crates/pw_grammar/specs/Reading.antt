-- Reading from left to right: the answer for a whole list, and the rules that it is made of.
pub mod Whole
pub mod Steps
pub mod Expressions
pub mod Statements
pub mod Declarations
pub mod Limits
