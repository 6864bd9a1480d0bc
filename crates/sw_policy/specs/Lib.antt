pub mod Options
pub mod PickFirst
pub mod OneOrMany
pub mod OneOrManySet
pub mod Definitions
pub mod Inner
pub mod Laws
