pub mod Choosing
pub mod Options
pub mod Scan
pub mod Rows
pub mod Commands
pub mod Calling
