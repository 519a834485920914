-- A block where it stands, the bytes of a sheet and its verdict; when a sheet is taken.
pub mod Placed
pub mod Sheet
pub mod Theorems
-- What the functions of this crate promise, in the code's terms.
pub mod Records
