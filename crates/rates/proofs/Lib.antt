-- The bytes of rows, and of rate sheets.
pub mod Fields
pub mod Held
pub mod WellFormed
-- The row that prices a name at a second.
pub mod RateLaws
pub mod PriceIs
-- Judging and indexing, and looking up.
pub mod Heads
pub mod Indexing
pub mod Searching
