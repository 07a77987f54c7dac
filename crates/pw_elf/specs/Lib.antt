-- The numbers of the standards, the structs of a file as plain records, and names in a string table.
pub mod ElfNumbers
pub mod NumbersOfCode
pub mod Views
pub mod Strings
