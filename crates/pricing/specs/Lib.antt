-- What nodes cost, and what pricing answers.
pub mod Bills
pub mod Pricing
pub mod Told
-- What the functions of this crate promise each other.
pub mod Admission
pub mod BlockPrices
pub mod Running
-- What holds of prices.
pub mod Theorems
