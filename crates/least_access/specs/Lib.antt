pub mod Held
pub mod Solved
pub mod Entered
pub mod Rounds
