-- What follows from the table of the check, with the proofs. No definition stands on these.
pub mod FormCode
pub mod Shape
pub mod Blame
pub mod Sound
pub mod SoundForms
