pub mod Levels
pub mod PartLemmas
pub mod SameLemmas
pub mod TreeLemmas
