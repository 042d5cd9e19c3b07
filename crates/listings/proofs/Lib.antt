pub mod OneRows
pub mod Chosen
pub mod Paged
pub mod Running
