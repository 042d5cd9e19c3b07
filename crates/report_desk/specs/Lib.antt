pub mod Terms
pub mod Lines
pub mod Reasons
pub mod Commands
pub mod Showing
