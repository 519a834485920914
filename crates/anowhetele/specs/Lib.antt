-- What a host is handed: document 01, 'The numbers a call comes back with'.
pub mod Answers
pub mod Blocks
pub mod Places
pub mod Prices
pub mod Rows
-- What each call may be refused with.
pub mod Calls
