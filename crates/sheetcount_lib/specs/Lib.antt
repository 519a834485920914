-- What the program makes of its input.
pub mod Program
-- What the functions of the program promise each other.
pub mod Reading
pub mod Printing
