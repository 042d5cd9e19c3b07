pub mod Place
pub mod Format
pub mod Sets
pub mod Exact
pub mod Gives
