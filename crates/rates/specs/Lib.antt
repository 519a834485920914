-- The bytes of a rate sheet, and the price of a name at a second.
pub mod Rates
pub mod Prices
-- What holds of them.
pub mod Theorems
-- What the functions of this crate promise.
pub mod Told
pub mod Index
