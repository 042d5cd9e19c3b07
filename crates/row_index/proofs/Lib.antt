pub mod Narrowed
pub mod Indexed
pub mod Removed
pub mod Marking
pub mod Leading
