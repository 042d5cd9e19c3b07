pub mod Work
pub mod Emptying
pub mod Fed
pub mod Owed
pub mod Moves
pub mod Prepared
pub mod Starting
pub mod Working
