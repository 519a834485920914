-- What is promised: the language of formats, and what the leaves do.
pub mod Answer
pub mod Places
pub mod Ranges
pub mod Read
pub mod Format
pub mod Formats
pub mod EveryFormat
pub mod Bytes
pub mod Choice
pub mod Marks
pub mod Order
pub mod Store
pub mod Walk
pub mod Told
pub mod Fields
