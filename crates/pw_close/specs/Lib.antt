-- Which functions the roots of a graph lead to: graphs, levels and parents, paths, and their laws; last the words of private
-- contracts.
pub mod Graphs
pub mod Closure
pub mod Paths
pub mod Laws
pub mod Steps
