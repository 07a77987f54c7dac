-- The steps and the runs of the machine, on states alone: products, jumps, what instructions use, how they end, then calls and
-- runs.
pub mod Products
pub mod Jumps
pub mod Uses
pub mod MachineEnds
pub mod Calls
pub mod Runs
