pub mod NonZero
pub mod Laws
