-- The typed unit of a source or its first fault, the words of messages, and the laws.
pub mod Units
pub mod Messages
pub mod Laws
