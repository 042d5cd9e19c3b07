pub mod Drawn
pub mod First
