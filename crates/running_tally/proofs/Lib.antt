-- Rows counted and measured; those whose names are there, and those whose names are new.
pub mod Counts
pub mod Measures
-- Places in order, by groups.
pub mod Groups
-- Bytes moved to the front.
pub mod Moves
-- The first pass.
pub mod RaisedRow
pub mod Raising
-- The second pass.
pub mod FilledRow
pub mod Filling
-- Running tallies.
pub mod Absorbing
