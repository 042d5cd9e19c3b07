pub mod Terms
pub mod Pages
pub mod Lines
pub mod Choosing
pub mod Commands
pub mod Asking
