-- What models and private clauses alone cite: one level of a schema, its levels, and parts of nodes.
pub mod Levels
pub mod Shape
pub mod Parts
pub mod Shown
