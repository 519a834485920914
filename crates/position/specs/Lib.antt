-- Position keys and the nodes of a block, lots, spans and parts; what holds of them.
pub mod Keys
pub mod Nodes
pub mod Lots
pub mod Spans
pub mod Parts
pub mod Python
pub mod Theorems
