pub mod Terms
pub mod Members
pub mod Commands
pub mod Linking
pub mod Scan
