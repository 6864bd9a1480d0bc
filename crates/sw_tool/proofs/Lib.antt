pub mod Came
pub mod Gained
pub mod Logged
