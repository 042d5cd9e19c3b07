pub mod Sessions
pub mod Moving
pub mod Exchanging
pub mod Serving
