-- What follows from the definitions, with the proofs. No definition stands on these.
pub mod PickFirst
pub mod OneOrMany
pub mod OneOrManySet
pub mod PickSchema
pub mod ManySchema
