-- Tokens, in the order to read: bytes, spellings, constants, tokens, what stands at a place of a text, a whole text, and the
-- laws; last how the code reads.
pub mod Bytes
pub mod Spellings
pub mod Number
pub mod Character
pub mod Token
pub mod Fault
pub mod Text
pub mod Laws
pub mod Reading
