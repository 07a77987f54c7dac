-- What all layers have in common, in the order to read: limits, names, type strings, numbers as bytes, and the fields, parts
-- and structs of a file.
pub mod Limits
pub mod LimitsOfCode
pub mod Name
pub mod TypeText
pub mod Tests
pub mod Bytes
pub mod Field
pub mod Laid
pub mod Structs
pub mod StructLaws
pub mod Least
