-- What follows from the definitions, with the proofs. No definition stands on these.
pub mod Completion
pub mod Fronts
pub mod Lexemes
pub mod Numbers
pub mod Printed
pub mod PrintedImages
pub mod PrintedNumbers
pub mod PrintedTexts
pub mod Quoting
pub mod Structure
pub mod Texts
pub mod Writing
pub mod Pushed
