-- What models and private clauses alone cite.
pub mod Heads
pub mod Machine
pub mod Kept
pub mod Appended
pub mod Written
