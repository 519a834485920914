-- Sums of bills.
pub mod BillSums
-- When a part is priced, and what its bill says.
pub mod Exactness
-- A block as the sheet of one record.
pub mod OneRecord
-- A block in the two forms of its metadata list.
pub mod BillsAlike
-- Cuts.
pub mod Partitions
-- A block's names, priced.
pub mod NamesPriced
-- A sheet between its records.
pub mod Records
