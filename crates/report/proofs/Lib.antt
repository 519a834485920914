-- Decimal digits.
pub mod Decimals
-- Texts put into a buffer, piece by piece.
pub mod Texts
-- The lines of rows, measured and written.
pub mod Passing
-- What putting the text of a tally answers.
pub mod Telling
-- Texts that fit.
pub mod Shorts
