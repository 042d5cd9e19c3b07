pub mod PermSet
pub mod Roles
