-- Laws of tests, integers, lists, the order of bytes, answers and places; what a `?` hands on.
pub mod Tests
pub mod Ints
pub mod Lists
pub mod TotalOrder
pub mod Answers
pub mod Handed
pub mod Places
pub mod Walks
-- What holds of every format, and one law for each way on: what proofs about code cite.
pub mod EveryFormat
pub mod Steps
pub mod Joints
pub mod Fixed
pub mod Headed
pub mod Items
pub mod Looser
pub mod Overwrites
pub mod Puts
-- The leaves' own loops and numbers.
pub mod Numbers
pub mod Starts
pub mod Orders
pub mod Stores
