-- Running tallies, and what is added to one.
pub mod RunningTally
-- What the functions of this crate promise each other.
pub mod Groups
pub mod Passes
