-- The words of private functions' contracts.
pub mod NameLists
pub mod ExternalLists
pub mod WithinLimits
pub mod Passing
pub mod DefinedNames
pub mod OtherTexts
pub mod Running
pub mod PlaceLists
pub mod NumberLists
pub mod PlacedItems
pub mod PointerPlaces
pub mod NameKinds
pub mod ExternalSymbols
pub mod PlacedFunctions
