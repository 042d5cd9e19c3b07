pub mod Since
pub mod Wanting
pub mod Passing
