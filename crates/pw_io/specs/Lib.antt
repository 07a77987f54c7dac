-- What the three ports of the outside mean, in the order to read: counts of faults, sources, sinks, stores, the
-- implementations in memory, which fail where they are asked to, and the adapters over std.
pub mod Faults
pub mod Source
pub mod Sink
pub mod Store
pub mod Planned
pub mod InMemory
pub mod Adapter
pub mod Folder
