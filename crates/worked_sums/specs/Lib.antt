-- Document 01's sums.
pub mod Sums
