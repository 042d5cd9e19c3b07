mod Bits
pub mod Giving
mod Listing
pub mod Measures
pub mod OneAnswer
pub mod Sets
mod Words
