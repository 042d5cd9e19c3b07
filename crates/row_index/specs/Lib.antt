pub mod Clues
pub mod Index
pub mod Narrow
pub mod Marks
pub mod Ways
