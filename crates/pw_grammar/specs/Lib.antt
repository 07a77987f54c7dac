-- The grammar, in the order to read: symbols, expressions, statements, declarations and units as derivations with their trees,
-- faults, and the laws; last the reading from left to right, which the parser goes by.
pub mod Terminals
pub mod Expressions
pub mod Statements
pub mod Declarations
pub mod Faults
pub mod Laws
pub mod Reading
