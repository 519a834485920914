-- Fields and formats: what every other proof cites.
pub mod Leaves
pub mod Refusals
pub mod Readings
pub mod FaultNumbers
-- Rows, lists and node data.
pub mod Lines
pub mod Firsts
pub mod Entries
pub mod Bounds
pub mod FirstUnmapped
pub mod Positioned
pub mod NameRows
pub mod NameLoop
pub mod NameMappings
pub mod MetadataRows
pub mod OtherRows
pub mod RowLists
pub mod TaggedLists
-- Rows that are well formed, and the marks of names.
pub mod Keyed
pub mod GoodRows
pub mod NamesMarked
