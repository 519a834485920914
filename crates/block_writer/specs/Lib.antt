-- What the writer takes and answers, and what holds of it.
pub mod Frames
pub mod BlockParts
pub mod Parts
pub mod Write
pub mod Theorems
-- What the functions of this crate promise each other, and what their answers say.
pub mod Sections
pub mod Judging
pub mod Pieces
pub mod Measured
