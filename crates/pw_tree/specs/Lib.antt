-- Trees as data: untyped ones and where they stand, typed ones and when they are well typed; then what a project means, in
-- the order of the rules, and the laws; last the words of private contracts.
pub mod Expressions
pub mod Statements
pub mod Declarations
pub mod Types
pub mod Placed
pub mod Proper
pub mod TypedExpressions
pub mod TypedStatements
pub mod Held
pub mod Units
pub mod Numbers
pub mod TypeTexts
pub mod WellTypedExpressions
pub mod WellTypedStatements
pub mod WellTypedUnits
pub mod Names
pub mod States
pub mod Evaluation
pub mod Execution
pub mod Meaning
pub mod Depends
pub mod Binding
pub mod Laws
pub mod Steps
