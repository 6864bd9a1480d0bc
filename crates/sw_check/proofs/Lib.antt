pub mod Choices
pub mod Modes
pub mod Preorder
pub mod TextClasses
