-- The data of modules: what the bytes of a dependency table mean as such data, with its laws, and what several modules are
-- together: the load order, what symbols mean, and which functions are kept.
pub mod Spelling
pub mod Allowed
pub mod Reading
pub mod Answer
pub mod LoadOrder
pub mod Resolution
pub mod Reach
pub mod Laws
