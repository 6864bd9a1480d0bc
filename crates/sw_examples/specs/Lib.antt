pub mod Person
pub mod Priority
pub mod Laws
