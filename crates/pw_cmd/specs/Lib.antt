-- The commands, in the order to read: the words, answers with their status and line, stages, the commands as stages; what the
-- call that the program is answers, the laws that commands obey, the ends of a meaning with their status and line, and what a
-- reader may take from a status; then the program from its arguments on; and last the words of this crate's private contracts.
pub mod Words
pub mod Faults
pub mod Answer
pub mod Says
pub mod Message
pub mod Stages
pub mod Primitives
pub mod Commands
pub mod Answers
pub mod Laws
pub mod Ends
pub mod Shows
pub mod Program
pub mod System
pub mod Steps
