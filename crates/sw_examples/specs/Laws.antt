-- What follows from the definitions, with the proofs. No definition stands on these.
pub mod Priority
