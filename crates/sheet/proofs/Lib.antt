-- Blocks that are taken.
pub mod TakenBlocks
-- A sheet read and judged a step at a time.
pub mod RecordSteps
pub mod Judging
-- When a sheet is taken.
pub mod SheetTaken
