-- The census of a block.
pub mod Census
-- The nodes of a block that lie in a lot, by content id and by name.
pub mod CountsById
-- Names by the places of their rows, and the rows of a tally that they make.
pub mod NamePlaces
pub mod NameOrder
pub mod UsedNames
-- What the functions of this crate promise each other.
pub mod Counters
pub mod Clamps
pub mod Clips
