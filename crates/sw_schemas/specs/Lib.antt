pub mod FitsSchema
pub mod Definitions
pub mod Shown
pub mod Laws
