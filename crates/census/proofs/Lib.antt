-- Counts of indices, and the counters that they raise.
pub mod Counts
pub mod Raises
-- A lot clipped to a block.
pub mod Clips
pub mod ClipRows
-- What callers cite of counts by name, and of a table that was cleared.
pub mod CountsByName
pub mod Cleared
-- Rows at places.
pub mod RowsAt
-- Places in the order of their names.
pub mod Joining
pub mod Halves
-- The rows that are used.
pub mod UsedWalk
pub mod UsedRuns
-- Sums over places.
pub mod PlaceSums
-- The census of a block that the scan took.
pub mod ScannedBlock
pub mod UsedCounts
pub mod CensusTaken
