-- The layout, the block and the verdict; well formed in plain words; the number of each fault.
pub mod Data
pub mod Inventory
pub mod Layout
pub mod Block
pub mod Valid
pub mod Numbers
-- What is told of a row.
pub mod Rows
-- What contracts cite beside: the code's answers, and its tables.
pub mod Table
pub mod Refusals
pub mod Told
pub mod ListKinds
pub mod MetadataChecks
pub mod Params
pub mod Bounds
