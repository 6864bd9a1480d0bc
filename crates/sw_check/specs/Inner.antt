-- What models and private clauses alone cite: one level of an expression, and what a pass keeps.
pub mod Shape
pub mod Options
pub mod Children
pub mod Found
pub mod Parts
