-- The numbers of the calls.
pub mod Calls
