-- The image of a program: bytes put into fresh regions, regions that can be mapped, the parts of a unit's program, and the whole image.
pub mod Putting
pub mod Mapping
pub mod UnitParts
pub mod Whole
pub mod Building
-- The run of an image: the row of an address, the start, the ends, the flush, and what the run means.
pub mod RowSearch
pub mod RowsOfUnits
pub mod Starting
pub mod Ends
pub mod Finishing
pub mod Meaning
