-- What the program makes of its input, and a record at a time.
pub mod Sheetcount
pub mod Nexts
-- What the functions' proofs cite.
pub mod Counts
pub mod Going
pub mod Whole
pub mod Shown
