-- What models and private clauses alone cite.
pub mod Chosen
pub mod Lone
