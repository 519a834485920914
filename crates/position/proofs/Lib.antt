-- Laws of the definitions, by the numbers that `omega` reads; and the theorems.
pub mod Ranges
pub mod Keys
pub mod Python
pub mod Nodes
pub mod Lots
pub mod Theorems
