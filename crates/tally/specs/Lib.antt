-- Rows and their sums; the bytes of a tally; the operations, and what their answers say.
pub mod Rows
pub mod Tally
pub mod Operations
pub mod Told
-- What holds of them.
pub mod Theorems
-- What the functions of this crate promise each other.
pub mod Walks
pub mod Sums
pub mod LookedUp
