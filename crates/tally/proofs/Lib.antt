-- Sums of rows.
pub mod Canon
pub mod Steps
-- Bytes that are rows, and tallies.
pub mod Held
pub mod FrontRows
pub mod Checking
pub mod Heads
pub mod Checks
pub mod WellFormed
pub mod Walk
-- What fits, and lists of merges.
pub mod Fitting
pub mod MergeLaw
-- Merging.
pub mod SumRows
pub mod Measuring
pub mod PutSums
pub mod Merging
-- Adding.
pub mod LookingUp
pub mod Opening
pub mod Adding
