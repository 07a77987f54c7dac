-- What one step of the closure marks.
pub mod Marks
