-- What follows from the definitions, with the proofs. No definition stands on these.
pub mod Numbers
pub mod Lengths
pub mod Utf8
pub mod Heads
pub mod Widths
pub mod Decoding
pub mod Grammar
pub mod Prefix
pub mod Spelled
pub mod Writing
