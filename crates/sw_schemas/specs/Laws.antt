-- What follows from what adapters write, with the proofs. No definition stands on these.
pub mod Written
pub mod Leaves
pub mod Narrow
pub mod Lists
pub mod Arrays
pub mod Options
pub mod Sets
pub mod Entries
pub mod Tuples
pub mod MapList
pub mod Records
pub mod Ranges
pub mod Tagged
