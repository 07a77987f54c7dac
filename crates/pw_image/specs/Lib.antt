-- The words of this crate's contracts: the project of one unit; what is done to the parts of its placed object, and which of its
-- functions are kept; the rows that say so; and the laws that tie all of it to the project.
pub mod OneUnit
pub mod Blanked
pub mod Relocated
pub mod Records
pub mod Graphs
pub mod Nodes
pub mod Keeping
pub mod Rows
pub mod Reported
pub mod Unbound
pub mod Laws
