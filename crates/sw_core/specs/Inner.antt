-- What models and private clauses alone cite.
pub mod Rows
pub mod Tagged
pub mod Iterated
pub mod Putting
pub mod Parts
pub mod Printing
pub mod Record
