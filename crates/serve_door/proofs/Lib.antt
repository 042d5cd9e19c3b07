pub mod Chained
pub mod Fresh
pub mod Handles
pub mod Employed
