-- The machine, from numbers to a run: what computations give, the state, what each instruction does, a step and a run.
-- Then what a call of the processor answers and leaves, and last the words of private contracts.
pub mod Bits
pub mod Integer
pub mod Word
pub mod Multiply
pub mod State
pub mod Exec
pub mod Run
pub mod Harts
pub mod Runs
pub mod Outside
pub mod Steps
