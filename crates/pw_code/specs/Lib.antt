-- What the code scheme is, from parts of code to the object of a unit, when an object is sound, and how long code is.
pub mod Items
pub mod Frames
pub mod LoadImmediate
pub mod Pieces
pub mod ExpressionCode
pub mod StatementCode
pub mod FunctionCode
pub mod Bounds
pub mod Objects
pub mod Soundness
pub mod Laws
