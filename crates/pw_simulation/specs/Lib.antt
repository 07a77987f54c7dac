-- What a run of a project's image has to do with what the project means: the world of a run, code at a place, the memory, values
-- and the machine's state at each moment; when a world shows a project; the function whose body runs, and calls; the world of a project's image. Then the laws.
pub mod World
pub mod CodeAt
pub mod Memories
pub mod Values
pub mod Moments
pub mod Sees
pub mod Bodies
pub mod Calls
pub mod Statements
pub mod Straight
pub mod Laws
pub mod Tables
pub mod Witness
pub mod Projects
pub mod ImageWorld
pub mod Encodable
pub mod ProjectLaws
pub mod ImageRuns
pub mod Programs
pub mod AnyRuns
