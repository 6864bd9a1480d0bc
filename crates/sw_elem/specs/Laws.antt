-- What follows from the definitions, with the proofs. No definition stands on these.
pub mod AnyLeaf
pub mod Classes
pub mod Decimal
pub mod Equations
pub mod Foreign
pub mod KeyedLeaf
pub mod Leaf
pub mod Numbers
pub mod Takes
pub mod Text
pub mod TextLeaf
pub mod Converted
