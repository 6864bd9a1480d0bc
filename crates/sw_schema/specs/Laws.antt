-- What follows from what is valid, with the proofs. No definition stands on these.
pub mod SchemaCode
pub mod Shape
pub mod SameTree
pub mod OneOf
pub mod FieldsValid
pub mod Leaves
