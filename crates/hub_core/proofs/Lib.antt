pub mod Ticking
pub mod Adding
pub mod Replies
pub mod Placing
pub mod Opened
pub mod Revoking
pub mod Stopping
