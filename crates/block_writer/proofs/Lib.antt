-- Rows by their framing.
pub mod RowsIn
pub mod FrameLengths
pub mod RowCounts
pub mod Framed
pub mod Fits
pub mod Fitting
-- What the reader says of bytes that are not written yet.
pub mod PiecesJudging
pub mod RowsJudging
pub mod TimersJudging
pub mod MetadataJudging
pub mod BlockJudging
pub mod FirstUnmapped
-- The block that parts make, and the reader's verdict on it.
pub mod MadeBlock
pub mod Judged
pub mod RoundTrip
pub mod WriterNumbers
-- Its bytes.
pub mod Entries
pub mod PutPieces
pub mod Encoded
pub mod Written
