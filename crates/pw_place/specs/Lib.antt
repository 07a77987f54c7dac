-- Where the parts of a module stand, what they hold, and when objects make no module.
pub mod Distances
pub mod Sizes
pub mod Names
pub mod Places
pub mod Symbols
pub mod Contents
pub mod Tables
pub mod Refusals
pub mod Merging
pub mod Steps
