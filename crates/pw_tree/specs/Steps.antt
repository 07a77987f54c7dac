-- What copying a tree by a loop has done so far.
pub mod Nested
