-- Typed units that are written out: well-typed ones, and some that are not.
pub mod Units
pub mod Countdown
pub mod ArithmeticUnits
pub mod ArrayUnits
pub mod LoopUnits
pub mod CallUnits
pub mod ModuleUnits
pub mod IllTyped
