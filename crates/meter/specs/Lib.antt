-- What stands in a part of the world, and its tally.
pub mod Standing
pub mod Counting
-- What the operations answer.
pub mod Tallying
pub mod SheetTally
pub mod Streaming
-- What the functions of this crate promise each other.
pub mod Adding
pub mod Told
pub mod SheetTold
pub mod Progress
-- What holds of them.
pub mod Cuts
pub mod Theorems
