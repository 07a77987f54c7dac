-- Memory: regions with their bytes, what each call answers and leaves, the fetches, and which regions can be mapped. Then
-- the laws of memory, the two memories of this crate, and last the words of private contracts.
pub mod Regions
pub mod Memory
pub mod States
pub mod Map
pub mod Words
pub mod WordLaws
pub mod WriteLaws
pub mod Apart
pub mod Flat
pub mod Recording
pub mod Steps
