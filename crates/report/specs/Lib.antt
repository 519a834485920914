-- What is printed, and what the answers of putting it say.
pub mod Text
-- What the functions of this crate promise each other.
pub mod Told
