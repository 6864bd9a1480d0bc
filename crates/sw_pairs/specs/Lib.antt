pub mod PairSet
pub mod Laws
