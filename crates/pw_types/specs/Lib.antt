-- The types of a unit, in the order to read: what is visible, the typed tree, the rules, the typed unit, all faults of a unit,
-- the laws, and the messages; last the words of private contracts.
pub mod Scopes
pub mod Typed
pub mod Reserved
pub mod Faults
pub mod Expressions
pub mod Blocks
pub mod Statements
pub mod TypedStatements
pub mod Declarations
pub mod Units
pub mod Checks
pub mod Nests
pub mod Laws
pub mod RuleNames
pub mod Messages
pub mod Steps
