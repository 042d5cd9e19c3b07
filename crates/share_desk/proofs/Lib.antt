pub mod Words
pub mod OneRows
pub mod FitRows
