-- Inventories, the light count, the lengths of lists.
pub mod EndLines
pub mod Zeros
pub mod ListLengths
-- The scan.
pub mod Refusals
pub mod Fronts
pub mod Verdicts
pub mod ReadUpTo
pub mod WithoutLateTimers
pub mod Endings
pub mod Rests
-- Well formed, and taken.
pub mod ValidOk
pub mod Taken
-- Sections, rows and names.
pub mod NameWalks
pub mod SectionsThere
pub mod BothForms
pub mod RunsThere
pub mod Walk
pub mod GivenFaults
pub mod AnswerNumbers
pub mod Stops
pub mod FixedFields
pub mod BlockAnswers
pub mod NodeNames
pub mod AskedRanges
