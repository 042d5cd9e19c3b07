pub mod Kept
pub mod Adding
pub mod Ready
pub mod Staying
