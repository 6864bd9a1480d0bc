pub mod Refusals
pub mod Lone
