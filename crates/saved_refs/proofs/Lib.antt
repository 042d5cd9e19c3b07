pub mod Members
pub mod Chosen
pub mod OneRow
pub mod OneList
pub mod Named
pub mod OneRows
pub mod FitRows
