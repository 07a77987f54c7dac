-- The words of private contracts: what a call does of one instruction.
pub mod Access
pub mod Operations
pub mod Does
pub mod Advances
