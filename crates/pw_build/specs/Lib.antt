-- The image of a program in memory; where its functions stand; its run, as the machine's; what the run has to do with the source;
-- and the words of private contracts.
pub mod Built
pub mod Extents
pub mod Executed
pub mod Meant
pub mod Steps
