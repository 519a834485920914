-- Where things stand in a block, and what the operations answer.
pub mod Sections
pub mod Questions
pub mod RowQuestions
pub mod AskedRows
pub mod Light
-- What holds of them, and of the verdict.
pub mod Theorems
pub mod FixedFields
-- What the scan knows on its way.
pub mod Scan
