pub mod OneRows
pub mod Holding
pub mod Zipped
pub mod Facts
pub mod Changed
