pub mod Answers
pub mod Commands
pub mod Deciding
pub mod Listing
pub mod Orders
pub mod Secrets
pub mod Sites
pub mod Terms
