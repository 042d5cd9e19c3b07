pub mod Generated
pub mod Requests
