-- The tally of nodes.
pub mod Amounts
pub mod Blocks
-- Counting a block.
pub mod CountedBlock
pub mod AddedBlock
pub mod Putting
pub mod Tallied
-- Sheets, whole and a record at a time.
pub mod Streaming
pub mod Carried
pub mod Taking
pub mod Walking
pub mod SheetPuts
-- When a part is tallied, and what its tally counts.
pub mod Exactness
pub mod Positions
pub mod NamesAlone
pub mod FormsAlike
pub mod AirBlocks
pub mod ShutOut
-- Cuts, and demand 3.
pub mod Cuts
pub mod Shares
pub mod Partitions
