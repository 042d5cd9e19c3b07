pub mod AdminsLeft
pub mod OneRows
pub mod FitRows
pub mod UpgradeRow
