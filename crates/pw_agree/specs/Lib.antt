-- What a project is in memory: load order, kept functions, places, and the image.
pub mod LoadOrder
pub mod Kept
pub mod Placing
pub mod Image
