pub mod Joined
pub mod Arrays
pub mod Floats
pub mod PageFloats
